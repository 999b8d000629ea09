-- Where in its group a line stands, and which lines may stand there.
use Rattle.std.specs.Prelude.{ℕ, ◌+◌, ◌-◌, Bool, true, false, not, ◌&&◌, ◌==◌, nat_lt}
use Rattle.nest.specs.Blocks.Line.{Line, PlanLine, InputLine, OutputLine, GroupLine, ForLine, LetLine, FirstLine, ElseLine, GuardLine, EndLine, AllocLine, FetchLine, StoreLine, PublishLine}

-- how many blocks of the group are open, whether its `publish` stands, and whether a fetch may still come
pub record Stage : Type 0 where
  pub depth : ℕ
  pub published : Bool
  pub may_fetch : Bool

-- behind a group's `publish`, or before the first group
abbrev pub outside : Stage
outside = record { depth = 0; published = true; may_fetch = false }

-- behind a group's first line
abbrev pub entered : Stage
entered = record { depth = 0; published = false; may_fetch = true }

-- A group comes after the `publish` of the one before it, which stands in no block inside its group and behind which nothing else
-- of the group stands. A fetch comes before the first loop, `first`, guard and store.
abbrev pub may_stand : Line → Stage → Bool
may_stand (GroupLine n f region grid) s = s.published
may_stand (FetchLine b g region) s = not s.published && s.may_fetch
may_stand (PublishLine c) s = not s.published && s.depth == 0
may_stand (PlanLine name) s = true
may_stand (InputLine d) s = true
may_stand (OutputLine d) s = true
may_stand ElseLine s = true
may_stand EndLine s = true
may_stand _ s = not s.published

-- how many blocks may stand in one another
abbrev pub most_blocks : ℕ
most_blocks = 512

-- whether a block more may be opened, where the line opens one
abbrev pub has_depth : Line → Stage → Bool
has_depth (ForLine i x kind) s = nat_lt s.depth most_blocks
has_depth (FirstLine i) s = nat_lt s.depth most_blocks
has_depth (GuardLine low high) s = nat_lt s.depth most_blocks
has_depth _ s = true

-- inside a block more, behind which no fetch comes
abbrev pub deeper : Stage → Stage
deeper s = record { depth = s.depth + 1; published = s.published; may_fetch = false }

-- behind the line
abbrev pub stage_after : Line → Stage → Stage
stage_after (GroupLine n f region grid) s = entered
stage_after (ForLine i x kind) s = deeper s
stage_after (FirstLine i) s = deeper s
stage_after (GuardLine low high) s = deeper s
stage_after EndLine s = record { depth = s.depth - 1; published = s.published; may_fetch = s.may_fetch }
stage_after (StoreLine b k at e) s = record { depth = s.depth; published = s.published; may_fetch = false }
stage_after (PublishLine c) s = record { depth = s.depth; published = true; may_fetch = false }
stage_after _ s = s
