-- The form of a group: buffers, lets and fetches, then what has no fetch in it, and last the one `publish`.
use Rattle.std.specs.Prelude.{Bool, true, false, ◌&&◌}
use Rattle.std.specs.List.{list_all}
use Rattle.plan.specs.Plan.{Statement, Seq, For, Let, First, Guard, Alloc, Fetch, Store, Publish, Statements, Empty, Then, Group, Plan}

-- no fetch and no `publish` stands in it
abbrev mutual
  pub is_work : Statement → Bool
  is_work (Seq all) = are_work all
  is_work (For i x kind body) = is_work body
  is_work (First i a b) = is_work a && is_work b
  is_work (Guard low high body) = is_work body
  is_work (Fetch b g region) = false
  is_work (Publish c) = false
  is_work _ = true

  pub are_work : Statements → Bool
  are_work Empty = true
  are_work (Then a rest) = is_work a && are_work rest

-- work, and a `publish` as the last statement
abbrev pub end_in_publish : Statements → Bool
end_in_publish Empty = false
end_in_publish (Then (Publish c) Empty) = true
end_in_publish (Then a rest) = is_work a && end_in_publish rest

-- buffers, lets and fetches may come before it
abbrev pub are_in_form : Statements → Bool
are_in_form (Then (Let i pick forms) rest) = are_in_form rest
are_in_form (Then (Alloc b f places) rest) = are_in_form rest
are_in_form (Then (Fetch b g region) rest) = are_in_form rest
are_in_form all = end_in_publish all

-- the body is a block in that form
abbrev pub is_body : Statement → Bool
is_body (Seq all) = are_in_form all
is_body _ = false

abbrev pub has_form : Group → Bool
has_form g = is_body g.body

abbrev pub is_in_form : Plan → Bool
is_in_form p = list_all has_form p.groups
