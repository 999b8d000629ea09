-- Sizes of buffers, noted in the order in which they are allocated.
use Rattle.std.proofs.Common.{◌≡◌, ℕ, suc, ◌+◌, ◌<◌, List, [], ◌∷◌, ◌++◌, length, drop, get_or, drop-cons, Bool, true, false, Option, Some, None, refl, sym, ap, ◌∙◌, add-one}
use Rattle.std.specs.Prelude.{◌==◌, if◌then◌else◌}
use Rattle.plan.specs.declared.stmt.Stmt.{Stmt}
use Rattle.plan.specs.Plan.{block}
use Rattle.plan.specs.Lists.{list_statements}
use Rattle.plan.specs.View.{statement_of}
use Rattle.plan.specs.Semantics.Setting.{Buffer, allocated, block_allocated, or_else}
use Rattle.interpreter.specs.declared.sizes.Size.{Size}
use Rattle.interpreter.specs.Sizes.{first_size, size_of}

pub or_else-assoc : {A : Type 0} (a b c : Option A) → or_else (or_else a b) c ≡ or_else a (or_else b c)
or_else-assoc None b c = refl
or_else-assoc (Some x) b c = refl

pub or_else-none : {A : Type 0} (a : Option A) → or_else a None ≡ a
or_else-none None = refl
or_else-none (Some x) = refl

pub size_of-or_else : (a b : Option Buffer) → size_of (or_else a b) ≡ or_else (size_of a) (size_of b)
size_of-or_else None b = refl
size_of-or_else (Some x) b = refl

pub first_size-push : (xs : List Size) (x : Size) (b : ℕ) → first_size (xs ++ x ∷ []) b ≡ or_else (first_size xs b) (if x.buffer == b then Some x.dimensions else None)
first_size-push [] x b = refl
first_size-push (y ∷ xs) x b = by (y.buffer == b) (first_size-push xs x b)
  where
    by : (t : Bool) → first_size (xs ++ x ∷ []) b ≡ or_else (first_size xs b) (if x.buffer == b then Some x.dimensions else None) →
        (if t then Some y.dimensions else first_size (xs ++ x ∷ []) b) ≡ or_else (if t then Some y.dimensions else first_size xs b) (if x.buffer == b then Some x.dimensions else None)
    by true h = refl
    by false h = h

pub size_of-alloc : (t : Bool) (y : Buffer) → size_of (if t then Some y else None) ≡ (if t then Some (length y.places) else None)
size_of-alloc true y = refl
size_of-alloc false y = refl

-- the sizes of the statements from the i-th on
abbrev pub left : List Stmt → ℕ → ℕ → Option ℕ
left all i b = size_of (block_allocated (block (list_statements (drop i all))) b)

pub left_more : (all : List Stmt) (i : ℕ) (x : Stmt) (b : ℕ) → i < length all → x ≡ get_or all i x → left all i b ≡ or_else (size_of (allocated (statement_of x) b)) (left all (i + 1) b)
left_more all i x b lt is =
    ap (λ (xs : List Stmt). size_of (block_allocated (block (list_statements xs)) b)) (drop-cons all i x lt ∙ ap (λ (y : Stmt). y ∷ drop (suc i) all) (sym is))
    ∙ size_of-or_else (allocated (statement_of x) b) (block_allocated (block (list_statements (drop (suc i) all))) b)
    ∙ ap (λ (n : ℕ). or_else (size_of (allocated (statement_of x) b)) (left all n b)) (sym (add-one i))

-- one more statement noted
pub noted_more : (all : List Stmt) (i : ℕ) (x : Stmt) (b : ℕ) (old now new whole : Option ℕ) → i < length all → x ≡ get_or all i x → new ≡ or_else now (size_of (allocated (statement_of x) b))
    → or_else now (left all i b) ≡ whole → or_else new (left all (i + 1) b) ≡ whole
noted_more all i x b old now new whole lt is noted so_far =
    ap (λ (o : Option ℕ). or_else o (left all (i + 1) b)) noted
    ∙ or_else-assoc now (size_of (allocated (statement_of x) b)) (left all (i + 1) b)
    ∙ ap (or_else now) (sym (left_more all i x b lt is)) ∙ so_far
