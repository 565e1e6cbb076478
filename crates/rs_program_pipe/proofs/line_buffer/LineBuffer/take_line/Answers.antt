use Rattle.std.proofs.Common.{◌≡◌, ◌∙◌, Some, ap, rules, sym, take}
use Rattle.rs_program_pipe.specs.Digits.{bytes_of_line}
use Rattle.rs_program_pipe.specs.Lines.{next_line}
use Rattle.rs_program_pipe.proofs.BufferLemmas.{line_stopped, line_taken}
use Rattle.rs_program_pipe.proofs.line_buffer.LineBuffer.take_line.Goals as goal

pub returns-in-Ok-clause-coming : goal.returns-in-Ok-clause-coming
returns-in-Ok-clause-coming c = λ more.
    let cut = ap (take c.args.end) c.as_slice.ensures in
    let read = sym (ap bytes_of_line cut) ∙ c.in-Ok.ensures.bytes ∙ ap Some (sym c.from_vec.ensures) in
    let counted : c.saturating_add-self.result ≡ next_line c.args.self.now.line = search rules in
    line_taken _ _ _ _ _ more _ _ c.args.end c.requires.ongoing c.requires.given c.requires.line read counted c.advance.ensures.items

pub returns-in-Err-clause-coming : goal.returns-in-Err-clause-coming
returns-in-Err-clause-coming c = λ more.
    let cut = ap (take c.args.end) c.as_slice.ensures in
    line_stopped c.args.self.now c.stop.new.self c.in-Err.fault c.args.end more c.requires.ongoing c.requires.given c.requires.line
    (λ e. sym (ap bytes_of_line cut) ∙ c.in-Err.ensures.not_hex e) c.stop.ensures.not_hex c.stop.ensures.no_memory
