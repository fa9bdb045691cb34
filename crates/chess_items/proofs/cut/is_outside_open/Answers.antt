use Rattle.chess_items.proofs.OpenLemmas.{brace_seen, digits_seen, small_seen}
use Rattle.chess_items.proofs.cut.is_outside_open.Goals as goal

pub goes_on-requires-in-123-clause-seen : goal.goes_on-requires-in-123-clause-seen
goes_on-requires-in-123-clause-seen c = brace_seen c.args.start c.args.looked c.in-Some.ensures.cases.0 c.in-123.is c.saturating_sub-seen.ensures c.requires.looked

pub goes_on-requires-in-36-clause-seen : goal.goes_on-requires-in-36-clause-seen
goes_on-requires-in-36-clause-seen c = digits_seen c.args.start c.args.looked c.in-Some.ensures.cases.0 c.in-36.is c.saturating_sub-seen.ensures c.requires.looked

pub is_small-requires-clause-seen : goal.is_small-requires-clause-seen
is_small-requires-clause-seen c = small_seen c.args.start c.args.looked c.in-Some.ensures.cases.0 c.in-36.is c.saturating_sub-seen.ensures c.requires.looked
