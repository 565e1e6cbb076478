-- The subscriptions of a session: sections 3.8.3.1 and 3.8.4 of OASIS MQTT Version 5.0.
use Rattle.std.specs.Prelude.{ℕ, Bool, true, false, ◌||◌, not, nat_lt, is_some, List}
use Rattle.std.specs.Cmp.Lexicographic.{slice_cmp}
use Rattle.std.specs.Ordering.{nat_cmp}
use Rattle.std.specs.FinMap as finite
use Rattle.rs_packet.specs.declared.packet.RetainHandling.{RetainHandling}
use Rattle.rs_packet.specs.declared.packet.RetainHandling.TheVariants.{Always, IfNew, Never}
use Rattle.rs_session.specs.declared.subscriptions.Subscription.{Subscription}
use Rattle.rs_session.specs.declared.subscriptions.TheConstants.{MAX_SUBSCRIPTIONS}

-- by the bytes of the filter
abbrev pub Subscriptions : Type 0
Subscriptions = finite.FinMap (slice_cmp nat_cmp) Subscription

abbrev pub none : Subscriptions
none = finite.empty

abbrev pub is_subscribed : List ℕ → Subscriptions → Bool
is_subscribed filter subscriptions = is_some (finite.get subscriptions filter)

-- it is there, or the session may have one more
abbrev pub can_subscribe : List ℕ → Subscriptions → Bool
can_subscribe filter subscriptions = is_subscribed filter subscriptions || nat_lt (finite.len subscriptions) MAX_SUBSCRIPTIONS

-- 3.8.3.1: whether the retained messages are sent, to a subscription that was there before or was not
abbrev pub replays : RetainHandling → Bool → Bool
replays Always there = true
replays IfNew there = not there
replays Never there = false
