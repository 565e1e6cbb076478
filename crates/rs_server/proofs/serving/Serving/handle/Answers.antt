use Rattle.rs_server.proofs.Goings.{goes_on_as}
use Rattle.rs_server.proofs.serving.Serving.handle.Goals as goal

pub returns-clause-handled : goal.returns-clause-handled
returns-clause-handled g c = λ from first unread rest written told h.
    goes_on_as c.handle_all-end.result from first _ _ _ _
    (rw c.give_back.ensures.planned (rw c.give_back.ensures.buffered (c.handle_all-end.ensures.handled from first unread rest written told h)))
