use Rattle.std.proofs.Common.{rules, ◌≡◌, List, ℕ, drop, length, subst, sym, ap}
use Rattle.chess_items.specs.Coming.{AtHand, unread}
use Rattle.chess_items.specs.steps.Unended.{BeginsComment}
use Rattle.chess_items.specs.declared.cut.Comment.{Comment}
use Rattle.chess_items.proofs.UnendedLemmas.{braces_searched, line_searched}
use Rattle.chess_items.proofs.at_hand.AtHand.note.Goals as goal

pub invariant_of-self : goal.invariant_of-self
invariant_of-self g c =
    let h = c.self.inside in
    let i = c.self.invariant in
    let hand : unread c.args.self.now ≡ drop h.used h.bytes.items = sym (ap (λ (h : AtHand g.row.R.Denot). unread h) c.self.view_is) in
    let len : c.len.result ≡ length h.bytes.items = search rules in
    let begins = subst (λ (x : List ℕ). BeginsComment c.in-Some-Braces.field-0 c.args.place x) c.unread.ensures c.in-Some-Braces.ensures in
    (i.0, i.1, i.2, braces_searched h.dropped h.used c.len.result h.bytes.items (subst (λ (k : Comment). BeginsComment k c.args.place (unread c.args.self.now)) c.in-Some-Braces.field-0-is begins) c.requires hand len, i.4)

pub invariant_of-self-in-Some-Line : goal.invariant_of-self-in-Some-Line
invariant_of-self-in-Some-Line g c =
    let h = c.self.inside in
    let i = c.self.invariant in
    let hand : unread c.args.self.now ≡ drop h.used h.bytes.items = sym (ap (λ (h : AtHand g.row.R.Denot). unread h) c.self.view_is) in
    let len : c.len.result ≡ length h.bytes.items = search rules in
    let begins = subst (λ (x : List ℕ). BeginsComment c.in-Some-Line.field-0 c.args.place x) c.unread.ensures c.in-Some-Line.ensures in
    (i.0, i.1, i.2, i.3, line_searched h.dropped h.used c.len.result h.bytes.items (subst (λ (k : Comment). BeginsComment k c.args.place (unread c.args.self.now)) c.in-Some-Line.field-0-is begins) c.requires hand len)
