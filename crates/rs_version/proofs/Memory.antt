-- When the retained messages count no more bytes than the writer may keep.
use Rattle.std.proofs.Common.{◌≡◌, ℕ, ◌-◌, ◌<◌, ◌≤◌, Bool, true, List, arith}
use Rattle.std.specs.Prelude.{nat_le}
use Rattle.std.specs.List.{filter}
use Rattle.std.specs.List.Sorted.{IsStrictlySortedBy}
use Rattle.std.specs.Map.{keys_of, remove_entry}
use Rattle.std.specs.BTreeMap.{insert_entry, is_at}
use Rattle.std.proofs.lemmas.Bool.Decides.{nat_tests}
use Rattle.rs_topic.specs.Order.{topic_cmp}
use Rattle.rs_message.specs.Values.{MessageValue}
use Rattle.rs_store.specs.Bytes.{bytes_at, bytes_of, retained_bytes}
use Rattle.rs_store.specs.Contents.{stays}
use Rattle.rs_store.proofs.Bytes.{bytes_filter_le, bytes_insert, bytes_remove}

le_true : (m n : ℕ) → m ≤ n → true ≡ nat_le m n
le_true m n h = grind (arith, nat_tests)

pub true_le : (m n : ℕ) (b : Bool) → b ≡ nat_le m n → b ≡ true → m ≤ n
true_le m n b is h = grind (arith, nat_tests)

le_same : (a b c d : ℕ) → (a ≤ b → c ≤ d) → (c ≤ d → a ≤ b) → nat_le a b ≡ nat_le c d
le_same a b c d f g = grind (arith, nat_tests)

module _ (es : List (List ℕ × MessageValue)) (memory : ℕ) (small : retained_bytes es ≤ memory) where
  -- a new topic has space
  pub set_fits : (t : List ℕ) (m : MessageValue) (wanted free : ℕ) → IsStrictlySortedBy topic_cmp (keys_of es) → free ≡ memory - retained_bytes es → wanted ≡ bytes_of (t, m) → wanted ≤ free
      → true ≡ nat_le (retained_bytes (insert_entry topic_cmp es t m)) memory
  set_fits t m wanted free sorted is-free is-wanted h =
      le_true (retained_bytes (insert_entry topic_cmp es t m)) memory (omega (arith, small, is-free, is-wanted, h, bytes_insert es t m sorted))

  -- it has none, but what is replaced may make it
  pub set_fits_as : (t : List ℕ) (m : MessageValue) (wanted free old : ℕ) → IsStrictlySortedBy topic_cmp (keys_of es) → free ≡ memory - retained_bytes es → wanted ≡ bytes_of (t, m) → free < wanted → old ≡ bytes_at t es
      → nat_le (wanted - free) old ≡ nat_le (retained_bytes (insert_entry topic_cmp es t m)) memory
  set_fits_as t m wanted free old sorted is-free is-wanted more is-old =
      let law = bytes_insert es t m sorted in
      le_same (wanted - free) old (retained_bytes (insert_entry topic_cmp es t m)) memory
      (λ h. omega (arith, small, is-free, is-wanted, more, is-old, law, h))
      (λ h. omega (arith, small, is-free, is-wanted, more, is-old, law, h))

  pub clear_fits : (t : List ℕ) → true ≡ nat_le (retained_bytes (remove_entry (is_at (topic_cmp t)) es)) memory
  clear_fits t = le_true (retained_bytes (remove_entry (is_at (topic_cmp t)) es)) memory (omega (arith, small, bytes_remove es t))

  pub sweep_fits : (moment : ℕ) → true ≡ nat_le (retained_bytes (filter (stays moment) es)) memory
  sweep_fits moment = le_true (retained_bytes (filter (stays moment) es)) memory (omega (arith, small, bytes_filter_le (stays moment) es))
