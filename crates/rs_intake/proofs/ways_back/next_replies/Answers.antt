use Rattle.std.proofs.Common.{rules, ◌≡◌, [], length, map}
use Rattle.rs_intake_line.specs.Done.{refused_reply}
use Rattle.rs_intake.proofs.Done.{left_none, left_ready, put_refusing}
use Rattle.rs_intake.proofs.ways_back.next_replies.Goals as goal

pub returns-in_default-clause-put : goal.returns-in_default-clause-put
returns-in_default-clause-put g c =
    let are : c.of_refused.result ≡ map refused_reply c.args.rest.now.items = cc (c.of_refused.ensures, c.replace-changes.ensures.value) in
    let number : c.len-refused.result ≡ length c.args.rest.now.items = search rules in
    let none : c.replace-changes.new.dest.items ≡ [] = search rules in
    put_refusing _ _ _ _ _ _ _ are number none

pub returns-in_default-clause-left : goal.returns-in_default-clause-left
returns-in_default-clause-left g c =
    let none : c.replace-changes.new.dest.items ≡ [] = search rules in
    left_none _ _ _ _ none c.requires.left

pub make_ready-requires : goal.make_ready-requires
make_ready-requires g c = let r = left_ready _ _ _ c.requires.left in record { none = c.requires.ready; plain = r.0; rises = r.1 }
