use Rattle.std.proofs.Common.{ap, sym, ◌∙◌, arith}
use Rattle.std.proofs.lemmas.List.{append-nil}
use Rattle.rs_store.proofs.Bytes.{bytes_none}
use Rattle.rs_store.proofs.Standing.{stands_empty}
use Rattle.rs_version.proofs.writer.VersionWriter.new.Goals as goal

pub invariant_of-result : goal.invariant_of-result
invariant_of-result g c =
    let h = c.requires.history in
    let k = c.requires.content in
    let log = c.args.writer.desk.shown.value.prefix.log in
    record {
      history_is = h.0;
      limit_is = ap (λ z. z.limit) k;
      sound = rw (k, h.2) (stands_empty g.N.StoreName.limit);
      list_is = h.1 ∙ (sym h.2 ∙ sym (append-nil log));
      calm_is = rw k (c.new.ensures g.N.StoreName.limit);
      steps = append-nil _ ∙ c.requires.steps;
      small = rw k (omega (arith, bytes_none));
    }
