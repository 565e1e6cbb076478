use Rattle.std.proofs.Common.{◌≡◌, ◌-◌, ◌∙◌, ℕ, List, ap, drop, length, subst, sym, take}
use Rattle.std.proofs.lemmas.List.{take_rest}
use Rattle.rs_program_pipe.specs.Lines.{has_line_feed, IsLineEnd}
use Rattle.rs_program_pipe.proofs.LineLemmas.{line_end_behind, no_line_feed}
use Rattle.rs_program_pipe.proofs.line_buffer.LineBuffer.line_end.Goals as goal

pub returns-in-Some-clause-found : goal.returns-in-Some-clause-found
returns-in-Some-clause-found c =
    let n = c.args.scanned in
    let text = c.args.self.now.text.items in
    let shown = c.as_slice.result.now in
    let rest : take (length shown - n) (drop n shown) ≡ drop n text = take_rest shown n ∙ ap (drop n) c.as_slice.ensures in
    line_end_behind text n c.in-Some.at c.requires.within c.requires.clean (subst (λ (t : List ℕ). IsLineEnd t c.in-Some.at) rest c.in-Some.ensures.found)

pub returns-in-None-clause-none : goal.returns-in-None-clause-none
returns-in-None-clause-none c =
    let n = c.args.scanned in
    let text = c.args.self.now.text.items in
    let shown = c.as_slice.result.now in
    let rest : take (length shown - n) (drop n shown) ≡ drop n text = take_rest shown n ∙ ap (drop n) c.as_slice.ensures in
    no_line_feed text n c.requires.clean (sym (ap has_line_feed rest) ∙ c.in-None.ensures.none)
