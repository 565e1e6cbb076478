-- The filters so far were removed.
use Rattle.std.proofs.Common.{◌≡◌, ◌≤◌, length, take, vec_len, vec_capacity}
use Rattle.rs_session.specs.Table.{removal_codes, without_all}
use Rattle.rs_session.proofs.open.Open.unsubscribe.Given as goal

abbrev pub invariant-loop-filter : goal.invariant-loop-filter
invariant-loop-filter l = record {
  coded : l.codes.items ≡ removal_codes (take l.filter-index l.filter-items) l.initial.self.subscriptions;
  removed : l.self ≡ record l.initial.self { subscriptions = without_all (take l.filter-index l.filter-items) l.initial.self.subscriptions };
  count : vec_len l.codes ≡ l.filter-index;
  capacity : length l.filter-items ≤ vec_capacity l.codes;
}
