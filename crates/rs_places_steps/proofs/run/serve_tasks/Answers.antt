use denote.Exit.{no}
use denote.Param.Send.{arg_send, param_send}
use denote.Param.{param}
use Rattle.rs_places_steps.proofs.Sent.{task_send}
use Rattle.rs_places_steps.proofs.run.serve_tasks.Goals as goal

pub serve-requires-send-C : goal.serve-requires-send-C
serve-requires-send-C g c κs within =
    let b = c.type_bounds in
    param_send 1 _
    (arg_send _ no _ (task_send (param 0 g.row.T) (param 1 g.row.G) (param 4 g.row.T-In) (param 5 g.row.T-Out) (param 6 g.row.T-Time) b.send-T b.send-G b.send-T-In b.send-T-Out b.send-T-Time (param 7 g.row.G-End) (param 8 g.row.G-Name) b.send-G-End
    g.T.Turn g.T.In.Read g.T.Out.Write g.T.Time.Clock g.G.LineGate g.G.StoreGate g.G.Gate g.G.Name.StoreName))
