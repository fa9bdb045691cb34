use Rattle.std.proofs.Common.{◌≡◌, ◌==◌, ℕ, List, None, filter, ap, ◌∙◌, arith}
use Rattle.std.specs.FinSet.{contains}
use Rattle.chess_types.specs.board.Squares.{file_of, rank_of, squares}
use Rattle.chess_types.specs.board.MoveParts.{MoveParts}
use Rattle.chess_types.specs.board.Outcome.{is_without}
use Rattle.chess_san.specs.Writing.{is_rival, rivals, share_file, origin_by, origin_among}
use Rattle.chess_san.specs.steps.Origins.{from_each}
use Rattle.chess_san.proofs.GoesLemmas.{rival_goes}
use Rattle.chess_san.proofs.ListLemmas.{any_from, begun, none_from}
use Rattle.chess_san.proofs.writer.origin_of.Goals as goal

pub returns-clause-value : goal.returns-clause-value
unfolding origin_among rivals
returns-clause-value g c =
    let xs : List ℕ = filter (contains c.rivals-others.result) squares in
    let all : from_each c.args.to None xs ≡ rivals c.args.live.now.position c.args.kind c.args.from c.args.to =
    begun c.args.live.now.position (is_rival c.args.live.now.position c.args.kind c.args.from c.args.to) c.args.to None c.rivals-others.result (omega arith) c.rivals-others.ensures.rivals (λ n h legal.
    rival_goes c.args.live.now.position c.args.kind c.args.from c.args.to n c.requires.plain h legal) in
    c.origin_by.ensures.value
    ∙ ap (λ b. origin_by b c.share_file-file.result c.share_rank-rank.result c.args.from) (c.are_none-none.ensures ∙ none_from c.args.to None xs)
    ∙ ap (λ b. origin_by (is_without (from_each c.args.to None xs)) b c.share_rank-rank.result c.args.from)
    (c.share_file-file.ensures ∙ any_from (λ s. file_of s == file_of c.args.from) c.args.to None xs)
    ∙ ap (λ b. origin_by (is_without (from_each c.args.to None xs)) (share_file (from_each c.args.to None xs) c.args.from) b c.args.from)
    (c.share_rank-rank.ensures ∙ any_from (λ s. rank_of s == rank_of c.args.from) c.args.to None xs)
    ∙ ap (λ (ms : List MoveParts). origin_among ms c.args.from) all
