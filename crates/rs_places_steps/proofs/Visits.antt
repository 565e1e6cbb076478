-- The connections of a turn that were served so far.
use Rattle.std.proofs.Common.{◌≡◌, ℕ, Option, Some, None, List, [], ◌∷◌, ◌++◌, map, refl, sym, ap, subst, ◌∙◌, append_assoc}
use Rattle.std.proofs.lemmas.List.{append-nil, map-append}
use Rattle.rs_places_steps.specs.Shared.{SharedValue}
use Rattle.rs_places_steps.specs.Turns.{AreAll, Connections, Ending, Gave, GivesNext, IsOut, Streams, TakesBack, TookBack}
use Rattle.rs_places_steps.specs.Visits.{AreConnectionsServed, IsConnectionServed, Place, ServedSoFar, Visit, next_number}
use Rattle.rs_places_steps.proofs.Marks.{marks_through}

-- one connection was served over these streams and given back, from the place before to the one after
pub record ServesOne (limit number : ℕ) (before : Place) (given : Streams) (after : Place) : Type 0 where
  pub visit : Visit
  pub served : IsConnectionServed limit number before.gate visit
  pub over : visit.given ≡ given
  pub leaves : visit.gate ≡ after.gate
  pub taken_back : TakesBack before.connections visit.ending after.connections

gave_none : (waiting : Option (List Streams)) → Gave waiting [] waiting
gave_none None = tt
gave_none (Some waiting) = refl

gave_more : (first then last : Option (List Streams)) (xs ys : List Streams) → Gave first xs then → Gave then ys last → Gave first (xs ++ ys) last
gave_more None then last xs ys p q = tt
gave_more (Some ws) None last xs ys p q = absurd p
gave_more (Some ws) (Some vs) None xs ys p q = absurd q
gave_more (Some ws) (Some vs) (Some us) xs ys p q = p ∙ (ap (λ l. xs ++ l) q ∙ sym (append_assoc xs ys us))

pub all_given : (first then : Option (List Streams)) (xs : List Streams) → Gave first xs then → AreAll then [] → AreAll first xs
all_given None then xs p q = tt
all_given (Some ws) None xs p q = absurd p
all_given (Some ws) (Some vs) xs p q = p ∙ (ap (λ l. xs ++ l) q ∙ append-nil xs)

took_none : (ended : Option (List Ending)) → TookBack ended [] ended
took_none None = tt
took_none (Some ended) = sym (append-nil ended)

pub took_more : (first then last : Option (List Ending)) (xs ys : List Ending) → TookBack first xs then → TookBack then ys last → TookBack first (xs ++ ys) last
took_more first then None xs ys p q = tt
took_more first None (Some us) xs ys p q = absurd q
took_more None (Some vs) (Some us) xs ys p q = absurd p
took_more (Some ws) (Some vs) (Some us) xs ys p q = q ∙ (ap (λ l. l ++ ys) p ∙ append_assoc ws xs ys)

pub served_none : (limit : ℕ) (place : Place) → IsOut None place.connections.out → place.gate.pending ≡ [] → ServedSoFar limit place 1 place
served_none limit place out none = record {
  visits = [];
  extends = λ more last h. h;
  given = gave_none place.connections.waiting;
  ended = took_none place.connections.ended;
  out = out;
  place = refl;
  pending = none;
}

pub served_more : (limit number : ℕ) (first now after : Place) (connections : Connections) (given : Streams) → ServedSoFar limit first number now → GivesNext now.connections (Some given) connections
    → ServesOne limit number (record { connections = connections; gate = now.gate }) given after → ServedSoFar limit first (next_number number) after
served_more limit number first now after connections given so_far next one =
    let visit = one.visit in
    let G : Streams → Type 0 = λ s. Gave now.connections.waiting (s ∷ []) connections.waiting in
    let gave : Gave now.connections.waiting (visit.given ∷ []) after.connections.waiting =
    gave_more now.connections.waiting connections.waiting after.connections.waiting (visit.given ∷ []) [] (subst G (sym one.over) next.waiting) one.taken_back.waiting in
    let took : TookBack now.connections.ended (visit.ending ∷ []) after.connections.ended =
    took_more now.connections.ended connections.ended after.connections.ended [] (visit.ending ∷ []) next.ended one.taken_back.ended in
    let P : List Streams → Type 0 = λ l. Gave first.connections.waiting l after.connections.waiting in
    let Q : List Ending → Type 0 = λ l. TookBack first.connections.ended l after.connections.ended in
    record {
      visits = so_far.visits ++ visit ∷ [];
      extends = λ more last h.
          let R : SharedValue → Type 0 = λ gate. AreConnectionsServed limit (next_number number) gate more last in
          let S : List Visit → Type 0 = λ l. AreConnectionsServed limit 1 first.gate l last in
          subst S (sym (append_assoc so_far.visits (visit ∷ []) more)) (so_far.extends (visit ∷ more) last (one.served, subst R (sym one.leaves) h));
      given = subst P (sym (map-append (λ (v : Visit). v.given) so_far.visits (visit ∷ [])))
          (gave_more first.connections.waiting now.connections.waiting after.connections.waiting (map (λ (v : Visit). v.given) so_far.visits) (visit.given ∷ []) so_far.given gave);
      ended = subst Q (sym (map-append (λ (v : Visit). v.ending) so_far.visits (visit ∷ [])))
          (took_more first.connections.ended now.connections.ended after.connections.ended (map (λ (v : Visit). v.ending) so_far.visits) (visit.ending ∷ []) so_far.ended took);
      out = one.taken_back.out;
      place =
          let moved = (marks_through _ _ _ one.served.connection.marks one.served.connection.run).place in
          ap (λ (g : SharedValue). g.mark.place) (sym one.leaves) ∙ (one.served.connection.handed_on.place ∙ (moved ∙ so_far.place));
      pending = ap (λ (g : SharedValue). g.pending) (sym one.leaves) ∙ one.served.connection.none_pending;
    }
