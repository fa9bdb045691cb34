use Rattle.std.proofs.Common.{refl}
use Rattle.arbiter.proofs.roster.roster_in.Goals as goal

pub returns : goal.returns
returns g c = rw (c.tag.ensures, c.tag-2.ensures, c.tag-3.ensures, c.tag-4.ensures, c.tag-5.ensures, c.tag-6.ensures, c.tag-7.ensures, c.tag-8.ensures, c.tag-9.ensures) refl
