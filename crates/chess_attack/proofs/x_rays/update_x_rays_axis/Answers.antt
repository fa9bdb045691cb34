use Rattle.chess_attack.proofs.Work.{worked_more}
use Rattle.chess_attack.proofs.x_rays.update_x_rays_axis.Goals as goal

pub returns-clause-worked : goal.returns-clause-worked
returns-clause-worked c = worked_more _ _ _ _ _ c.update_x_rays_half.ensures.worked c.update_x_rays_half-2.ensures.worked
