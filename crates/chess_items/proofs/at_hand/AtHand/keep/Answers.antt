use Rattle.std.proofs.Common.{rules, ◌≡◌, ◌≤◌, ◌-◌, ◌∙◌, ℕ, List, length, drop, length-drop, sym, ap, subst, arith}
use Rattle.chess_items.specs.Items.{in_braces, in_line}
use Rattle.chess_items.specs.Coming.{AtHand, unread}
use Rattle.chess_items.proofs.ReadLemmas.{kept_at}
use Rattle.chess_items.proofs.UnendedLemmas.{searched_on}
use Rattle.chess_items.proofs.at_hand.AtHand.keep.Goals as goal

pub returns-clause-kept : goal.returns-clause-kept
returns-clause-kept g c =
    let len : c.len.result ≡ length c.self.inside.bytes.items = search rules in
    λ text rest e n. kept_at c.self.inside.bytes.items c.self.inside.used c.args.left c.len.result text rest (ap (λ (h : AtHand g.row.R.Denot). unread h) c.self.view_is ∙ e) n len

pub invariant_of-self : goal.invariant_of-self
invariant_of-self g c =
    let h = c.self.inside in
    let i = c.self.invariant in
    let hand : unread c.args.self.now ≡ drop h.used h.bytes.items = sym (ap (λ (h : AtHand g.row.R.Denot). unread h) c.self.view_is) in
    let len : c.len.result ≡ length h.bytes.items = search rules in
    let l : length (drop h.used h.bytes.items) ≡ length h.bytes.items - h.used = length-drop h.used h.bytes.items in
    let k : c.args.left ≤ length (drop h.used h.bytes.items) = subst (λ (x : List ℕ). c.args.left ≤ length x) hand c.requires in
    let used : h.used ≤ c.len.result - c.args.left = (let most : h.used ≤ length h.bytes.items = search rules in omega (arith, len, l, k, most)) in
    (search rules, i.1, i.2, searched_on in_braces h.unbraced h.dropped h.used (c.len.result - c.args.left) h.bytes.items used i.3, searched_on in_line h.unbroken h.dropped h.used (c.len.result - c.args.left) h.bytes.items used i.4)
