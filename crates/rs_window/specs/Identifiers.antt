-- The packet identifiers that wait for an acknowledgement: sections 2.2.1, 4.3 and 4.9 of OASIS MQTT Version 5.0.
use Rattle.std.specs.Prelude.{◌≡◌, ℕ, ◌<◌, Option, Some, None, IfSome}
use Rattle.std.specs.Ordering.{nat_cmp}
use Rattle.std.specs.FinMap as map
use Rattle.slab.specs.Slab.{Slab, entries_from}
use Rattle.rs_packet.specs.Grammar.{IdFits}
use Rattle.rs_message.specs.declared.qos.Qos.{Qos}
use Rattle.rs_message.specs.declared.qos.Qos.TheVariants as qos
use Rattle.rs_window.specs.declared.identifiers.Kind.{Kind}
use Rattle.rs_window.specs.declared.identifiers.Kind.TheVariants.{AtLeastOnce, ExactlyOnce}

-- what each identifier in use waits for
abbrev pub Kinds : Type 0
Kinds = map.FinMap nat_cmp Kind

-- a slot's identifier is its number plus 1
abbrev pub kinds_of : Slab Kind → Kinds
kinds_of s = map.from_entries (entries_from 1 s.slots)

abbrev pub kinds_put : Kinds → ℕ → Option Kind → Kinds
kinds_put kinds id None = map.remove kinds id
kinds_put kinds id (Some kind) = map.insert kinds id kind

-- 4.3: what a PUBLISH waits for; nothing at QoS 0
abbrev pub kind_sent : Qos → Option Kind
kind_sent qos.AtMostOnce = None
kind_sent qos.AtLeastOnce = Some AtLeastOnce
kind_sent qos.ExactlyOnce = Some ExactlyOnce

-- after a PUBLISH of this QoS with this identifier, or with none
abbrev pub kinds_given : Qos → Option ℕ → Kinds → Kinds
kinds_given quality None kinds = kinds
kinds_given quality (Some id) kinds = kinds_put kinds id (kind_sent quality)

-- 2.2.1, 4.9: at QoS 1 and 2 there is an identifier, which is not in use, and fewer than the quota are
pub record IsNumbered (kinds : Kinds) (quota : ℕ) (quality : Qos) (id : Option ℕ) : Type 0 where
  pub fits : IdFits quality id
  pub free : IfSome id (λ n. map.get kinds n ≡ None)
  pub within : IfSome id (λ n. map.len kinds < quota)
