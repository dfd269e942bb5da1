use Rattle.std.proofs.Common.{◌∙◌}
use Rattle.cubes.proofs.Values.{worked_cubes_lem, cube_answer}
use Rattle.cubes.proofs.worked_cubes.Goals as goal

pub returns : goal.returns
returns c =
    record { defined = worked_cubes_lem; of_one = c.cube.ensures ∙ cube_answer 1 0 worked_cubes_lem.cube_of_one; of_other = c.cube-2.ensures ∙ cube_answer 8 2 worked_cubes_lem.cube_of_other }
