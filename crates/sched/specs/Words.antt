-- The words that schedules have for directives and tails.
use Rattle.std.specs.Prelude.{ℕ, Bool, true, false, ◌&&◌, List, [], ◌∷◌, Option, find, codes}
use Rattle.std.specs.Str.{bytes_eq}
use Rattle.sched.specs.declared.schedule.Tail.{Tail}
use Rattle.sched.specs.declared.schedule.Tail.TheVariants as end
use Rattle.sched.specs.declared.keyword.Keyword.{Keyword}
use Rattle.sched.specs.declared.keyword.Keyword.TheVariants as word

abbrev pub keyword_text : Keyword → List ℕ
keyword_text word.ComputeRoot = codes "compute_root"
keyword_text word.ComputeAt = codes "compute_at"
keyword_text word.StoreAt = codes "store_at"
keyword_text word.Fold = codes "fold"
keyword_text word.Split = codes "split"
keyword_text word.Tile = codes "tile"
keyword_text word.Reorder = codes "reorder"
keyword_text word.Unroll = codes "unroll"
keyword_text word.Vectorize = codes "vectorize"
keyword_text word.Parallel = codes "parallel"

abbrev pub tail_text : Tail → List ℕ
tail_text end.Guard = codes "guard"
tail_text end.Roundup = codes "roundup"
tail_text end.Shift = codes "shift"

-- which directives the compiler has
abbrev pub is_offered : Keyword → Bool
is_offered word.ComputeAt = true
is_offered word.StoreAt = true
is_offered word.Fold = true
is_offered word.Vectorize = true
is_offered word.ComputeRoot = true
is_offered word.Split = true
is_offered word.Tile = true
is_offered word.Reorder = true
is_offered word.Unroll = true
is_offered word.Parallel = true

abbrev pub keywords : List Keyword
keywords = word.ComputeRoot ∷ word.ComputeAt ∷ word.StoreAt ∷ word.Fold ∷ word.Split ∷ word.Tile ∷ word.Reorder ∷ word.Unroll ∷ word.Vectorize ∷ word.Parallel ∷ []

abbrev pub tails : List Tail
tails = end.Guard ∷ end.Roundup ∷ end.Shift ∷ []

-- the directive, of those that the compiler has, that is written so
unfoldable pub keyword_named : List ℕ → Option Keyword
keyword_named text = find (λ k. is_offered k && bytes_eq (keyword_text k) text) keywords

unfoldable pub tail_named : List ℕ → Option Tail
tail_named text = find (λ t. bytes_eq (tail_text t) text) tails
