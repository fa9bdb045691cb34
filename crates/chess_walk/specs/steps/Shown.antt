-- What the code gives of a visit.
use Rattle.chess_walk.specs.Replays.{Played, Shows}
use Rattle.chess_walk.specs.declared.replay.Replayed.{Replayed}

-- by the fields of what the code gives
abbrev pub shows : {A : Type 0} → Replayed A → Played → Type 0
shows r p = Shows r.depth r.level r.begins r.node r.san.bytes r.position p
