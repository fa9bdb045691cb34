-- What is read of the tags of a game's players and its event.
--   read_roster  the texts that are referred to
use Rattle.std.specs.Prelude.{option_map}
use Rattle.arbiter.specs.Rows.{Roster}
use Rattle.arbiter.specs.declared.roster.Roster as declared

abbrev pub read_roster : declared.Roster → Roster
read_roster r = record {
  white = option_map (λ v. v.now) r.white;
  black = option_map (λ v. v.now) r.black;
  white_elo = option_map (λ v. v.now) r.white_elo;
  black_elo = option_map (λ v. v.now) r.black_elo;
  event = option_map (λ v. v.now) r.event;
  site = option_map (λ v. v.now) r.site;
  date = option_map (λ v. v.now) r.date;
  round = option_map (λ v. v.now) r.round;
  variant = option_map (λ v. v.now) r.variant;
}
