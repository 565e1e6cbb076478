-- Lemmas on the store of a program.
use Rattle.std.proofs.Common.{◌≡◌, ℕ, ◌∙◌, List, ◌++◌, length, sym, ap, subst, arith}
use Rattle.std.proofs.lemmas.List.{nil_from_length, length-append, append-nil}
use Rattle.std.specs.List.{All}
use Rattle.rs_message.specs.declared.entry.Entry.{Entry}
use Rattle.rs_store.specs.declared.content.Content.{Content}
use Rattle.rs_store.specs.History.{IsLegal, Stands}
use Rattle.rs_store.specs.Needed.{AreNeeded}
use Rattle.rs_session.specs.Gate.{Mark, Extends}
use Rattle.rs_session.specs.Local.{local_mark}
use Rattle.rs_program_pipe.specs.declared.own_store.OwnGate.{OwnGate}
use Rattle.rs_program_pipe.specs.declared.own_store.TheConstants.{MAX_OWN_TOPICS}
use Rattle.rs_program_pipe.specs.Memory.{IsOfMark}
use Rattle.rs_program_pipe.specs.OwnStores.{content_of, IsOfOwnPlace, IsOwn, IsOwnEntry}

-- what it stands for has no serial above its mark's
pub of_mark : (gate : OwnGate) (mark : Mark) (list : List Entry) → IsOwn (content_of gate) list → local_mark (content_of gate) ≡ mark → IsOfMark mark list
of_mark gate mark list own is = record { legal = own.legal; places = own.places; needed = own.needed; serial = sym (own.stands.serials 1) ∙ ap (λ (m : Mark). m.serial) is }

-- if the content stays, a list with the one before as prefix is the same list
pub own_stays : (old new : Content) (seen list : List Entry) → old.limit ≡ MAX_OWN_TOPICS → new ≡ old → IsOwn old seen → Stands new list → Extends list seen → IsOwn new list
own_stays old new seen list limit same own stands begins =
    let more : List Entry = begins.0 in
    let none : length more ≡ 0 = omega (arith, own.stands.version, stands.version, ap (λ (c : Content). c.version) same, length-append seen more, ap (λ (l : List Entry). length l) begins.1) in
    let is : list ≡ seen = begins.1 ∙ ap (λ (l : List Entry). seen ++ l) (nil_from_length more none) ∙ append-nil seen in
    record {
      stands = stands;
      legal = subst (λ (n : ℕ). IsLegal n list) (ap (λ (c : Content). c.limit) same ∙ limit) stands.legal;
      places = subst (λ (l : List Entry). All IsOwnEntry l) (sym is) own.places;
      needed = (let P : List Entry → Type 0 = λ l. AreNeeded MAX_OWN_TOPICS IsOfOwnPlace l in subst P (sym is) own.needed);
    }
