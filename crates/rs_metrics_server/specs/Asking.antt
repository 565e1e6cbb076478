-- What a request asks for, by its method and its path.
use Rattle.std.specs.Prelude.{ℕ, List, codes, bytes_eq, if◌then◌else◌}
use Rattle.rs_metrics_server.specs.declared.asking.Asked.{Asked}
use Rattle.rs_metrics_server.specs.declared.asking.Asked.TheVariants.{Metrics, Health, NotFound, NotAllowed}

-- a page is there for two methods
abbrev pub by_method : List ℕ → Asked → Asked
by_method method page = if bytes_eq method (codes "GET") then page else (if bytes_eq method (codes "HEAD") then page else NotAllowed)

abbrev pub asked_of : List ℕ → List ℕ → Asked
asked_of method path =
    if bytes_eq path (codes "/metrics") then by_method method Metrics
    else (if bytes_eq path (codes "/healthz") then by_method method Health else NotFound)
