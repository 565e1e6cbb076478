use Rattle.std.proofs.Common.{◌∙◌, Some, ap, sym}
use Rattle.rs_program_pipe.specs.Digits.{bytes_of_line}
use Rattle.rs_program_pipe.proofs.BufferLemmas.{last_over, last_stopped, last_taken}
use Rattle.rs_program_pipe.proofs.line_buffer.LineBuffer.take_last.Goals as goal

pub returns-in-Ok-clause-coming : goal.returns-in-Ok-clause-coming
returns-in-Ok-clause-coming c =
    let read = sym (ap bytes_of_line c.as_slice.ensures) ∙ c.in-Ok.ensures.bytes ∙ ap Some (sym c.from_vec.ensures) in
    last_taken _ _ _ _ _ _ _ c.requires.ongoing c.requires.given c.requires.line read c.clear.ensures.items

pub returns-in-Ok-clause-end : goal.returns-in-Ok-clause-end
returns-in-Ok-clause-end c = λ empty. last_over _ _ _ _ c.requires.ongoing empty c.clear.ensures.items

pub returns-in-Err-clause-coming : goal.returns-in-Err-clause-coming
returns-in-Err-clause-coming c =
    last_stopped c.args.self.now c.stop.new.self c.in-Err.fault c.requires.ongoing c.requires.given c.requires.line
    (λ e. sym (ap bytes_of_line c.as_slice.ensures) ∙ c.in-Err.ensures.not_hex e) c.stop.ensures.not_hex c.stop.ensures.no_memory
