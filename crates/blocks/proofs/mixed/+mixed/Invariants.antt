use Rattle.blocks.proofs.mixed.+mixed.Given as goal

abbrev pub decreases-function_at : goal.decreases-function_at
decreases-function_at l = l.left

abbrev pub decreases-functions_at : goal.decreases-functions_at
decreases-functions_at l = l.left

abbrev pub decreases-all_at : goal.decreases-all_at
decreases-all_at l = l.left

abbrev pub decreases-step_in : goal.decreases-step_in
decreases-step_in l = l.left

abbrev pub decreases-walk : goal.decreases-walk
decreases-walk l = l.left

abbrev pub decreases-walk_apart : goal.decreases-walk_apart
decreases-walk_apart l = l.left

abbrev pub decreases-nests_from : goal.decreases-nests_from
decreases-nests_from l = l.left

abbrev pub decreases-all_turns : goal.decreases-all_turns
decreases-all_turns l = l.left

abbrev pub decreases-arm : goal.decreases-arm
decreases-arm l = l.left

abbrev pub decreases-arms : goal.decreases-arms
decreases-arms l = l.left

abbrev pub decreases-first_and_later : goal.decreases-first_and_later
decreases-first_and_later l = l.left

abbrev pub decreases-sliding_turns : goal.decreases-sliding_turns
decreases-sliding_turns l = l.left

abbrev pub decreases-computed : goal.decreases-computed
decreases-computed l = l.left
