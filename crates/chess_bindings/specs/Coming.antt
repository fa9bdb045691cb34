-- Bytes of a text of which more may come, as a source.
--   Coming   the bytes that it still gives, whether they are the last of the text, and whether a read has failed
--   GivesSome   a read gave some of the bytes, or failed, where none was left and more may come
--   HasEnded   none are left, and they were the last
use Rattle.std.specs.Prelude.{◌≡◌, Bool, true, false, ℕ, List, [], ◌++◌}

pub record Coming : Type 0 where
  pub left : List ℕ
  pub is_last : Bool
  pub failed : Bool

-- the bytes that are left are those and the others
pub record GivesSome (old : Coming) (bytes : List ℕ) (new : Coming) : Type 0 where
  pub parts : old.left ≡ bytes ++ new.left
  pub same : new.is_last ≡ old.is_last
  pub ran_out : new.failed ≡ true → (new.left ≡ []) × (new.is_last ≡ false)

pub record HasEnded (source : Coming) : Type 0 where
  pub none : source.left ≡ []
  pub last : source.is_last ≡ true
