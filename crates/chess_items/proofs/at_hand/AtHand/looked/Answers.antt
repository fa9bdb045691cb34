use Rattle.std.proofs.Common.{◌≡◌, ◌+◌, List, ℕ, drop, subst, sym, ap, arith}
use Rattle.chess_items.specs.Coming.{AtHand, unread}
use Rattle.chess_items.specs.steps.Unended.{BeginsComment}
use Rattle.chess_items.specs.declared.cut.Comment.{Comment}
use Rattle.chess_items.proofs.OpenLemmas.{nothing_undecided}
use Rattle.chess_items.proofs.UnendedLemmas.{braces_undecided, line_undecided}
use Rattle.chess_items.proofs.at_hand.AtHand.looked.Goals as goal

pub returns-in-None-clause-undecided : goal.returns-in-None-clause-undecided
returns-in-None-clause-undecided g c = nothing_undecided c.args.place

pub returns-in-Some-Braces-clause-undecided : goal.returns-in-Some-Braces-clause-undecided
returns-in-Some-Braces-clause-undecided g c =
    let h = c.self.inside in
    let hand : unread c.args.self.now ≡ drop h.used h.bytes.items = sym (ap (λ (h : AtHand g.row.R.Denot). unread h) c.self.view_is) in
    let used : c.args.self.now.used ≡ h.dropped + h.used = sym (ap (λ (h : AtHand g.row.R.Denot). h.used) c.self.view_is) in
    let begins = subst (λ (x : List ℕ). BeginsComment c.in-Some-Braces.field-0 c.args.place x) c.unread.ensures c.in-Some-Braces.ensures in
    braces_undecided h.unbraced h.dropped h.used c.known.result h.bytes.items (subst (λ (k : Comment). BeginsComment k c.args.place (unread c.args.self.now)) c.in-Some-Braces.field-0-is begins) c.self.invariant.3 hand
    (omega (arith, used, c.known.ensures))

pub returns-in-Some-Line-clause-undecided : goal.returns-in-Some-Line-clause-undecided
returns-in-Some-Line-clause-undecided g c =
    let h = c.self.inside in
    let hand : unread c.args.self.now ≡ drop h.used h.bytes.items = sym (ap (λ (h : AtHand g.row.R.Denot). unread h) c.self.view_is) in
    let used : c.args.self.now.used ≡ h.dropped + h.used = sym (ap (λ (h : AtHand g.row.R.Denot). h.used) c.self.view_is) in
    let begins = subst (λ (x : List ℕ). BeginsComment c.in-Some-Line.field-0 c.args.place x) c.unread.ensures c.in-Some-Line.ensures in
    line_undecided h.unbroken h.dropped h.used c.known-in-Some-Line.result h.bytes.items (subst (λ (k : Comment). BeginsComment k c.args.place (unread c.args.self.now)) c.in-Some-Line.field-0-is begins) c.self.invariant.4 hand
    (omega (arith, used, c.known-in-Some-Line.ensures))
