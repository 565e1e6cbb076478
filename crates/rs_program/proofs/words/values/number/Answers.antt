use Rattle.std.proofs.Common.{◌≡◌, ◌∙◌, refl, sym, subst, arith, List, ℕ, Option, Some, None, Result, Ok}
use Rattle.std.specs.Str.Parse.{ParsesUnsigned, ExplainsUnsignedError, HasUnsignedDigitsIfOk}
use Rattle.clap.specs.Words.{ReadsOne, Text, found_of, one_text}
use Rattle.clap.proofs.WalkLemmas.{one_text-rows}
use Rattle.rs_program.proofs.words.values.number.Goals as goal

-- an option that was read has a text that reads so
read_as_given : {E : Type 0} (gives : List ℕ → Result ℕ E → Type 0) (o : Option Text) (r : Option ℕ) (n : ℕ)
    → r ≡ Some n → (o ≡ None → r ≡ None) → ((t : Text) → o ≡ Some t → ReadsOne gives t r) → (t : Text) × (o ≡ Some t) × gives t (Ok n)
read_as_given gives None r n e none value = absurd (let x : None ≡ Some n = sym (none refl) ∙ e in cc)
read_as_given gives (Some t) r n e none value = (t, refl, subst (ReadsOne gives t) e (value t refl))

pub returns : goal.returns
returns c =
    let found = found_of c.args.found.now in
    let option = c.args.option.now in
    let (text, given, reads) = read_as_given (λ bs r. ParsesUnsigned 64 10 bs r × ExplainsUnsignedError 10 bs r × HasUnsignedDigitsIfOk bs r)
    (one_text found option) c.get_one.result c.in_ok-number.number c.in_ok-number.was c.get_one.ensures.none c.get_one.ensures.value in
    record {
      text = text;
      given = sym (one_text-rows found option) ∙ given;
      digits = reads.0.0.0;
      value = sym reads.0.1;
      above = omega arith;
      below = omega arith;
    }
