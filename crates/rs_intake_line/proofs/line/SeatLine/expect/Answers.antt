use Rattle.std.proofs.Common.{◌≡◌, ◌+◌, ◌<◌, ◌^◌, ◌++◌, ℕ, List, length, sym, ap, subst, ◌∙◌, arith}
use Rattle.rs_message.specs.declared.entry.Entry.{Entry}
use Rattle.rs_message.specs.declared.entry.Operation.{Operation}
use Rattle.rs_intake_queue.specs.Changes.{AreOf, numbered}
use Rattle.rs_intake_queue.specs.QueueRule.{AreAbove}
use Rattle.rs_intake_queue.proofs.Numbered.{numbered_length, numbered_of}
use Rattle.rs_intake_line.specs.Lines.{IsSeatLine, Line}
use Rattle.rs_intake_line.proofs.Ahead.{each_plain, seat_above, seat_sends}
use Rattle.rs_intake_line.proofs.line.SeatLine.expect.Goals as goal

pub announce-requires-clause-plain : goal.announce-requires-clause-plain
announce-requires-clause-plain g c = each_plain c.args.changes.items c.requires

-- the same entries, by the line's place and the serial of the last that is ahead
numbered_by : (place place' serial serial' : ℕ) (os : List Operation) (entries : List Entry) → entries ≡ numbered place' serial' os → place' ≡ place → serial' ≡ serial → entries ≡ numbered place serial os
numbered_by place place' serial serial' os entries are here last = are ∙ (ap (λ (p : ℕ). numbered p serial' os) here ∙ ap (λ (n : ℕ). numbered place n os) last)

pub send_changes-requires-clause-place : goal.send_changes-requires-clause-place
send_changes-requires-clause-place g c =
    let os = c.args.changes.items in
    let P : List Entry → Type 0 = λ l. AreOf c.self.inside.line.place l in
    let S : Line → Type 0 = λ v. c.last_serial.result ≡ v.serial + length v.ahead in
    let last = subst S (sym c.self.view_is) c.last_serial.ensures in
    subst P (sym (numbered_by c.self.inside.line.place _ _ _ os _ c.in-Some.ensures.job c.place-place.ensures.place last)) (numbered_of c.self.inside.line.place _ os)

pub send_changes-requires-clause-above : goal.send_changes-requires-clause-above
send_changes-requires-clause-above g c =
    let os = c.args.changes.items in
    let P : List Entry → Type 0 = λ l. AreAbove c.self.inside.line.sent l in
    let S : Line → Type 0 = λ v. c.last_serial.result ≡ v.serial + length v.ahead in
    let last = subst S (sym c.self.view_is) c.last_serial.ensures in
    subst P (sym (numbered_by c.self.inside.line.place _ _ _ os _ c.in-Some.ensures.job c.place-place.ensures.place last)) (seat_above _ _ _ _ os c.self.invariant)

-- what is announced was sent, and is ahead
sent_ahead : (place place' place'' serial serial' : ℕ) (taken taken' ahead ahead' job more : List Entry) (os : List Operation) → job ≡ numbered place' serial' os → more ≡ numbered place' serial' os
    → place' ≡ place → serial' ≡ serial + length ahead → taken' ≡ taken ++ job → ahead' ≡ ahead ++ more → place'' ≡ place → serial' + length more < 2 ^ 64
    → IsSeatLine place serial taken ahead → IsSeatLine place'' serial taken' ahead'
sent_ahead place place' place'' serial serial' taken taken' ahead ahead' job more os job_is more_is here last sent is same fits seat =
    let P : ℕ → Type 0 = λ p. IsSeatLine p serial taken' ahead' in
    let sends = sent ∙ ap (λ l. taken ++ l) (numbered_by place place' (serial + length ahead) serial' os job job_is here last) in
    let behind = is ∙ ap (λ l. ahead ++ l) (numbered_by place place' (serial + length ahead) serial' os more more_is here last) in
    let count = ap length more_is ∙ numbered_length place' serial' os in
    subst P (sym same) (seat_sends place serial taken taken' ahead ahead' os sends behind (omega (arith, fits, last, count)) seat)

pub invariant_of-self-in-Ok : goal.invariant_of-self-in-Ok
invariant_of-self-in-Ok g c =
    let S : Line → Type 0 = λ v. c.last_serial.result ≡ v.serial + length v.ahead in
    let last = subst S (sym c.self.view_is) c.last_serial.ensures in
    sent_ahead _ _ _ _ _ _ _ _ _ _ _ c.args.changes.items c.in-Some.ensures.job c.in-Some.ensures.ahead c.place-place.ensures.place last c.in-Ok.ensures.sent c.if-not-append.ensures c.in-Ok.ensures.place c.in-Some.ensures.small c.self.invariant
