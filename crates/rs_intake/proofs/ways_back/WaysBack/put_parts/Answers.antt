use Rattle.std.proofs.Common.{rules, ◌≡◌, ◌+◌, ℕ, List, [], length, subst, ◌∙◌, arith}
use Rattle.std.proofs.lemmas.List.{nil_from_length}
use Rattle.rs_intake_line.specs.Done.{Told}
use Rattle.rs_version.specs.Writer.{Written}
use Rattle.rs_intake.specs.Together.{jobs_of}
use Rattle.rs_intake.specs.Writers.{AreJobsDone}
use Rattle.rs_intake.proofs.Jobs.{parts_done, parts_left, parts_step, placed_left, sent_ways}
use Rattle.rs_intake.proofs.ways_back.WaysBack.put_parts.Goals as goal

pub loop-parts-preserved : goal.loop-parts-preserved
loop-parts-preserved g c =
    let i = c.loop-parts.invariant in
    let e = c.put_part-refused.ensures in
    let first = c.in-Some.ensures.items in
    let part = c.in-Some.part in
    let all = i.5 in
    let few = e.refused in
    let parts = c.loop-parts.parts.items in
    let left = c.pop_front.new.self.items in
    let rest = c.loop-parts.rest.items in
    let rest' = c.put_part-refused.new.rest.items in
    let n = c.put_part-refused.result in
    let D : ℕ → Written → List Told → ℕ → Type 0 = λ more w ways k. AreJobsDone g.N.StoreName.limit g.S.StoreWriter.most_held (g.S.StoreWriter.written c.args.writer.now) c.args.self.now.senders.items (jobs_of c.args.parts.items c.args.entries.items) k w ways in (
      parts_left parts left part rest rest' first e.rest i.0,
      placed_left _ parts left part rest rest' first e.rest i.1,
      sent_ways part.place c.loop-parts.self.senders.items e.replied.0 c.put_part-refused.new.self.senders.items e.replied.2 ∙ i.2,
      e.left,
      e.ready,
      omega (arith, all, few),
      (λ more w ways d.
          let sum : c.loop-parts.refused + (n + more) ≡ c.loop-parts.refused + n + more = omega arith in
          subst (D more w ways) sum (i.6 (n + more) w ways (parts_step _ _ _ _ parts left part rest rest' n _ _ more w ways e.replied.0 first e.rest i.0 e.replied.1 e.replied.2 d))),
    )

pub returns-clause-done : goal.returns-clause-done
returns-clause-done g c =
    let i = c.loop-parts.invariant in
    let refused = c.loop-parts.refused in
    let w = g.S.StoreWriter.written c.loop-parts.writer in
    let ways = c.loop-parts.self.senders.items in
    let count : length c.loop-parts.parts.items ≡ 0 = search rules in
    let none : c.loop-parts.parts.items ≡ [] = nil_from_length _ count in
    let D : ℕ → Type 0 = λ k. AreJobsDone g.N.StoreName.limit g.S.StoreWriter.most_held (g.S.StoreWriter.written c.args.writer.now) c.args.self.now.senders.items (jobs_of c.args.parts.items c.args.entries.items) k w ways in
    let all : refused + 0 ≡ refused = omega arith in
    subst D all (i.6 0 w ways (parts_done _ _ w ways c.loop-parts.parts.items c.loop-parts.rest.items none))
