-- Prometheus' text format 0.0.4: for each family a line of help, one of its type, and a line for each row that has a number.
use Rattle.std.specs.Prelude.{ℕ, List, [], ◌∷◌, ◌++◌, Option, Some, None, codes}
use Rattle.std.specs.Fmt.{decimal}
use Rattle.std.specs.List.{flat_map}
use Rattle.rs_metrics.specs.declared.snapshot.Snapshot.{Snapshot}
use Rattle.rs_metrics.specs.declared.families.Family.{Family}
use Rattle.rs_metrics.specs.declared.families.Row.{Row}
use Rattle.rs_metrics.specs.declared.families.Kind.{Kind}
use Rattle.rs_metrics.specs.declared.families.Kind.TheVariants.{Counter, Gauge, Seconds}
use Rattle.rs_metrics.specs.Snapshots.{number_of}

-- four words and a line feed
abbrev pub line_text : List ℕ → List ℕ → List ℕ → List ℕ → List ℕ
line_text first second third fourth = first ++ second ++ third ++ fourth ++ 10 ∷ []

abbrev pub kind_text : Kind → List ℕ
kind_text Counter = codes "counter"
kind_text Gauge = codes "gauge"
kind_text Seconds = codes "counter"

-- the power of ten behind a number: microseconds are told as seconds
abbrev pub power_text : Kind → List ℕ
power_text Counter = []
power_text Gauge = []
power_text Seconds = codes "e-6"

-- name, labels, a blank, the number in decimal and its power of ten; nothing if there is no number
abbrev pub sample_text : List ℕ → List ℕ → List ℕ → Option ℕ → List ℕ
sample_text name labels power (Some number) = line_text name labels (codes " ") (decimal number ++ power)
sample_text name labels power None = []

abbrev pub row_text : Snapshot → List ℕ → Kind → Row → List ℕ
row_text s name kind row = sample_text name row.labels.now (power_text kind) (number_of s row.source)

abbrev pub rows_text : Snapshot → List ℕ → Kind → List Row → List ℕ
rows_text s name kind rows = flat_map (row_text s name kind) rows

abbrev pub family_text : Snapshot → Family → List ℕ
family_text s family =
    line_text (codes "# HELP ") family.name.now (codes " ") family.help.now
    ++ line_text (codes "# TYPE ") family.name.now (codes " ") (kind_text family.kind)
    ++ rows_text s family.name.now family.kind family.rows.now

abbrev pub families_text : Snapshot → List Family → List ℕ
families_text s families = flat_map (family_text s) families
