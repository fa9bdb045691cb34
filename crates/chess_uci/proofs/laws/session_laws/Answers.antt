use Rattle.chess_uci.proofs.RunLemmas.{answers_each_go, answers_at_the_end, ready_alone, silent_after_quit}
use Rattle.chess_uci.proofs.KeptLemmas.{reports_the_best}
use Rattle.chess_uci.proofs.StaysLemmas.{search_stays}
use Rattle.chess_uci.proofs.laws.session_laws.Goals as goal

pub returns : goal.returns
returns c =
    record {
      each_go = answers_each_go;
      at_the_end = answers_at_the_end;
      ready = ready_alone;
      silent = silent_after_quit;
      best = reports_the_best;
      stays = search_stays;
    }
