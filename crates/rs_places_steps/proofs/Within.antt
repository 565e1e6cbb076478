-- What connections one after the other saw of a history that begins with the list known last, and what they sent.
use Rattle.std.proofs.Common.{◌≡◌, ◌≢◌, ℕ, ◌+◌, List, [], ◌∷◌, ◌++◌, length, refl, sym, ap, subst, ◌∙◌, append_assoc, length-append, arith}
use Rattle.std.specs.List.{AllByRecursion}
use Rattle.rs_message.specs.declared.entry.Entry.{Entry}
use Rattle.rs_store.specs.History.{IsLegal}
use Rattle.rs_store.proofs.Entries.{all_weaker}
use Rattle.rs_version.specs.Receipts.{StandsAt}
use Rattle.rs_version.proofs.Origins.{origins_differ}
use Rattle.rs_packet.specs.declared.packet.Publish.{Publish}
use Rattle.rs_session.proofs.Rows.{prefix_trans}
use Rattle.rs_session.specs.Gate.{Extends, Mark, Sends}
use Rattle.rs_session.specs.Points.{Given}
use Rattle.rs_session.specs.Stored.{AreGrowing, IsStoredIn, StandsOnce, lists_of}
use Rattle.rs_session.specs.Run.{Exchange}
use Rattle.rs_session.specs.Sent.{AreSentBy}
use Rattle.rs_server.proofs.Sending.{both_sent, none_sent}
use Rattle.rs_server.specs.Conversation.{AreLeft, assigned_of, start}
use Rattle.rs_places_steps.specs.Shared.{SharedValue, operations_of}
use Rattle.rs_places_steps.specs.Visits.{AreConnectionsServed, IsConnectionServed, Visit, next_number}
use Rattle.rs_places_steps.specs.Within.{ArePublications, AreWithin, IsWithin}

-- ---- the lists of connections

all_last : {A : Type 0} (P : A → Type 0) (xs : List A) (z : A) → AllByRecursion P (xs ++ z ∷ []) → P z
all_last P [] z all = all.0
all_last P (x ∷ xs) z all = all_last P xs z all.1

-- all that grow are prefixes of the last
growing_last : (lists : List (List Entry)) (last : List Entry) → AreGrowing (lists ++ last ∷ []) → AllByRecursion (λ seen. Extends last seen) lists
growing_last [] last grows = tt
growing_last (list ∷ lists) last grows = (all_last (λ (later : List Entry). Extends later list) lists last grows.0, growing_last lists last grows.1)

-- behind an entry of a legal list no other has its origin
none_behind : (limit : ℕ) (e : Entry) (list front passed rest : List Entry) → IsLegal limit list → list ≡ front ++ e ∷ (passed ++ rest) → AllByRecursion (λ other. other.origin ≢ e.origin) rest
none_behind limit e list front passed [] legal whole = tt
none_behind limit e list front passed (d ∷ rest) legal whole =
    let here : StandsAt e (length front + 1) list = record { before = front; after = passed ++ d ∷ rest; whole = whole; counted = refl } in
    let between = front ++ e ∷ passed in
    let moved : list ≡ between ++ d ∷ rest = whole ∙ sym (append_assoc front (e ∷ passed) (d ∷ rest)) in
    let there : StandsAt d (length between + 1) list = record { before = between; after = rest; whole = moved; counted = refl } in
    let longer : length between ≡ length front + (length passed + 1) = omega (arith, length-append front (e ∷ passed)) in
    let further : list ≡ front ++ e ∷ ((passed ++ d ∷ []) ++ rest) = whole ∙ ap (λ l. front ++ e ∷ l) (sym (append_assoc passed (d ∷ []) rest)) in (
      (λ same. let numbers = origins_differ limit list d e (length between + 1) (length front + 1) legal there here same in omega (arith, numbers, longer)),
      none_behind limit e list front (passed ++ d ∷ []) rest legal further,
    )

once_more : (limit : ℕ) (e : Entry) (short list : List Entry) → IsLegal limit list → Extends list short → StandsOnce e short → StandsOnce e list
once_more limit e short list legal (more, p) once =
    let whole : list ≡ once.front ++ e ∷ (once.rest ++ more) = p ∙ (ap (λ l. l ++ more) once.whole ∙ append_assoc once.front (e ∷ once.rest) more) in
    record { front = once.front; rest = once.rest ++ more; whole = whole; before = once.before; after = none_behind limit e list once.front [] (once.rest ++ more) legal whole }

stored_more : (limit : ℕ) (mark : Mark) (exchange : Exchange) (p : Publish) (lists : List (List Entry)) (short list : List Entry) → IsLegal limit list → Extends list short
    → IsStoredIn mark exchange p (lists ++ short ∷ []) → IsStoredIn mark exchange p (list ∷ [])
stored_more limit mark exchange p lists short list legal extends stored =
    let e : Entry = record { origin = record { place = exchange.to.mark.place; serial = exchange.to.mark.serial }; operation = stored.operation } in
    record {
      topic = stored.topic;
      operation = stored.operation;
      is_topic = stored.is_topic;
      changes = stored.changes;
      used = stored.used;
      stored = (once_more limit e short list legal extends (all_last (StandsOnce e) lists short stored.stored), tt);
    }

pub connection_within : (limit number : ℕ) (list : List Entry) (gate : SharedValue) (visit : Visit) → IsLegal limit list → IsConnectionServed limit number gate visit → Extends list visit.gate.known
    → IsWithin list (start (assigned_of gate.mark.place number) gate.known gate.mark) visit
connection_within limit number list gate visit legal one extends =
    let served = one.connection in
    let seen = growing_last (gate.known ∷ lists_of served.exchanges) visit.gate.known served.lists in
    let L : List Exchange → Type 0 = λ ts. AllByRecursion (λ seen. Extends list seen) (lists_of ts) in
    record {
      first = prefix_trans gate.known visit.gate.known list seen.0 extends;
      lists = subst L (sym one.exchanges) (all_weaker (λ l. Extends visit.gate.known l) (λ l. Extends list l) (λ l h. prefix_trans l visit.gate.known list h extends) (lists_of served.exchanges) seen.1);
      stored = λ before exchange after o p answer whole is_open told.
          stored_more limit _ exchange p (exchange.to.seen ∷ lists_of after) visit.gate.known list legal extends (served.stored before exchange after o p answer (sym one.exchanges ∙ whole) is_open told);
    }

pub visits_within : (limit number : ℕ) (list : List Entry) (first : SharedValue) (visits : List Visit) (last : SharedValue) → IsLegal limit list → AreConnectionsServed limit number first visits last → Extends list last.known
    → Extends list first.known × AreWithin list number first visits
visits_within limit number list first [] last legal same extends = let P : SharedValue → Type 0 = λ gate. Extends list gate.known in (subst P same extends, tt)
visits_within limit number list first (visit ∷ visits) last legal (one, more) extends =
    let rest = visits_within limit (next_number number) list visit.gate visits last legal more extends in
    let seen = growing_last (first.known ∷ lists_of one.connection.exchanges) visit.gate.known one.connection.lists in
    (prefix_trans first.known visit.gate.known list seen.0 rest.0, (connection_within limit number list first visit legal one rest.0, rest.1))

-- ---- what the connections sent

pub visits_send : (limit number : ℕ) (gate : SharedValue) (visits : List Visit) (last : SharedValue) → gate.pending ≡ [] → AreConnectionsServed limit number gate visits last
    → (entries : List Entry) × Sends gate.mark.sent entries last.mark.sent × ArePublications number gate visits entries
visits_send limit number gate [] last none served = ([], none_sent gate.mark last.mark (ap (λ (g : SharedValue). g.mark) served), refl)
visits_send limit number gate (visit ∷ visits) last none (one, rest) =
    let c = one.connection in
    let own = c.publications in
    let from = start (assigned_of gate.mark.place number) gate.known gate.mark in
    let (more, sends, later) = visits_send limit (next_number number) visit.gate visits last c.none_pending rest in
    let P : List Exchange → Type 0 = λ exchanges. AreSentBy from exchanges own.entries in
    let Q : List Exchange → Type 0 = λ exchanges. AreLeft from exchanges visit.planned (operations_of c.tail) in
    let R : List Given → Type 0 = λ planned. AreLeft from c.exchanges planned (operations_of c.tail) in
    let behind = both_sent c.mark.sent visit.gate.mark.sent last.mark.sent c.tail more c.handed_on.sent sends in (
      own.entries ++ (c.tail ++ more),
      both_sent gate.mark.sent c.mark.sent last.mark.sent own.entries (c.tail ++ more) own.sent behind,
      (own.entries, c.tail, more, refl, subst P (sym one.exchanges) own.publications, subst Q (sym one.exchanges) (subst R (sym one.planned) (c.tail_is none)), later),
    )
