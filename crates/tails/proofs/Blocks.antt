-- What the statements of a block change, and the way down to one of them, from one of them on.
use Rattle.std.proofs.Common.{◌≡◌, ℕ, zero, suc, ◌+◌, ◌-◌, ◌<◌, ◌≤◌, List, [], ◌∷◌, ◌++◌, length, take, drop, get_or, Bool, true, false, Option, None, refl, sym, ap, ◌∙◌, add-one, arith, length-drop}
use Rattle.std.specs.Prelude.{if◌then◌else◌}
use Rattle.std.proofs.Math.Seq.{drop-cons}
use Rattle.std.proofs.lemmas.List.{map-append, take_more}
use Rattle.plan.specs.declared.stmt.Stmt.{Stmt}
use Rattle.plan.specs.Plan.{Statement, Seq, For, Let, First, Guard, Alloc, Fetch, Store, Publish, block}
use Rattle.plan.specs.View.{statement_of}
use Rattle.plan.specs.Lists.{list_statements}
use Rattle.soundness.specs.Claims.{changes, block_changes}
use Rattle.tails.specs.Steps.{Spine, past, spine_of, block_spine}
use Rattle.tails.specs.View.{past_all}

pub rest_from : (xs : List Stmt) (i : ℕ) (x : Stmt) → i < length xs → x ≡ get_or xs i x → drop i xs ≡ x ∷ drop (i + 1) xs
rest_from xs i x h is = drop-cons xs i x h ∙ ap (λ y. y ∷ drop (suc i) xs) (sym is) ∙ ap (λ n. x ∷ drop n xs) (sym (add-one i))

past_append : (xs : List Statement) (a : Statement) (o : Option Spine) → past_all (xs ++ a ∷ []) o ≡ past_all xs (past a o)
past_append [] a o = refl
past_append (x ∷ xs) a o = ap (past x) (past_append xs a o)

past_nothing : (a : Statement) → past a None ≡ None
past_nothing (Seq all) = refl
past_nothing (For i x kind body) = refl
past_nothing (Let i pick ls) = refl
past_nothing (First i a c) = refl
past_nothing (Guard low high body) = refl
past_nothing (Alloc c f places) = refl
past_nothing (Fetch c g region) = refl
past_nothing (Store c k at e) = refl
past_nothing (Publish c) = refl

pub past_none : (xs : List Statement) → past_all xs None ≡ None
past_none [] = refl
past_none (x ∷ xs) = ap (past x) (past_none xs) ∙ past_nothing x

pub past_last : (xs : List Stmt) (i : ℕ) (x : Stmt) (o : Option Spine) → i < length xs → x ≡ get_or xs i x → past_all (list_statements (take (i + 1) xs)) o ≡ past_all (list_statements (take i xs)) (past (statement_of x) o)
past_last xs i x o h is =
    ap (λ l. past_all (list_statements l) o) (take_more xs i x h ∙ ap (λ y. take i xs ++ y ∷ []) (sym is))
    ∙ ap (λ l. past_all l o) (map-append statement_of (take i xs) (x ∷ []))
    ∙ past_append (list_statements (take i xs)) (statement_of x) o

-- what is before the statement, and the way from it on
abbrev pub way_from : List Stmt → ℕ → ℕ → Option Spine
way_from xs i b = past_all (list_statements (take i xs)) (block_spine (block (list_statements (drop i xs))) b)

at_statement : (xs : List Stmt) (i : ℕ) (x : Stmt) (b : ℕ) → i < length xs → x ≡ get_or xs i x →
    block_spine (block (list_statements (drop i xs))) b
    ≡ (if changes (statement_of x) b then (if block_changes (block (list_statements (drop (i + 1) xs))) b then None else spine_of (statement_of x) b)
    else past (statement_of x) (block_spine (block (list_statements (drop (i + 1) xs))) b))
at_statement xs i x b h is = ap (λ l. block_spine (block (list_statements l)) b) (rest_from xs i x h is)

pub way_on : (xs : List Stmt) (i : ℕ) (x : Stmt) (b : ℕ) → i < length xs → x ≡ get_or xs i x → changes (statement_of x) b ≡ false → way_from xs (i + 1) b ≡ way_from xs i b
way_on xs i x b h is no_change =
    past_last xs i x (block_spine (block (list_statements (drop (i + 1) xs))) b) h is
    ∙ ap (past_all (list_statements (take i xs)))
    (sym (at_statement xs i x b h is
    ∙ ap (λ v. if v then (if block_changes (block (list_statements (drop (i + 1) xs))) b then None else spine_of (statement_of x) b) else past (statement_of x) (block_spine (block (list_statements (drop (i + 1) xs))) b)) no_change))

pub way_here : (xs : List Stmt) (i : ℕ) (x : Stmt) (b : ℕ) → i < length xs → x ≡ get_or xs i x → changes (statement_of x) b ≡ true → block_changes (block (list_statements (drop (i + 1) xs))) b ≡ false →
    way_from xs i b ≡ past_all (list_statements (take i xs)) (spine_of (statement_of x) b)
way_here xs i x b h is change alone =
    ap (past_all (list_statements (take i xs)))
    (at_statement xs i x b h is
    ∙ ap (λ v. if v then (if block_changes (block (list_statements (drop (i + 1) xs))) b then None else spine_of (statement_of x) b) else past (statement_of x) (block_spine (block (list_statements (drop (i + 1) xs))) b)) change
    ∙ ap (λ v. if v then None else spine_of (statement_of x) b) alone)

pub way_none : (xs : List Stmt) (i : ℕ) (x : Stmt) (b : ℕ) → i < length xs → x ≡ get_or xs i x → changes (statement_of x) b ≡ true → block_changes (block (list_statements (drop (i + 1) xs))) b ≡ true → way_from xs i b ≡ None
way_none xs i x b h is change more =
    ap (past_all (list_statements (take i xs)))
    (at_statement xs i x b h is
    ∙ ap (λ v. if v then (if block_changes (block (list_statements (drop (i + 1) xs))) b then None else spine_of (statement_of x) b) else past (statement_of x) (block_spine (block (list_statements (drop (i + 1) xs))) b)) change
    ∙ ap (λ v. if v then None else spine_of (statement_of x) b) more)
    ∙ past_none (list_statements (take i xs))

take_all : (xs : List Stmt) (n : ℕ) → length xs ≤ n → take n xs ≡ xs
take_all [] zero h = refl
take_all [] (suc n) h = refl
take_all (x ∷ xs) zero h = absurd (omega (arith, h))
take_all (x ∷ xs) (suc n) h = ap (λ (l : List Stmt). x ∷ l) (take_all xs n (omega (arith, h)))

drop_all : (xs : List Stmt) (n : ℕ) → length xs ≤ n → drop n xs ≡ []
drop_all [] zero h = refl
drop_all [] (suc n) h = refl
drop_all (x ∷ xs) zero h = absurd (omega (arith, h))
drop_all (x ∷ xs) (suc n) h = drop_all xs n (omega (arith, h))

take_none : (xs : List Stmt) (n : ℕ) → n ≡ 0 → take n xs ≡ []
take_none [] n h = ap (λ (k : ℕ). take k []) h
take_none (x ∷ xs) n h = ap (λ (k : ℕ). take k (x ∷ xs)) h

pub past_step : (xs : List Stmt) (k : ℕ) (x : Stmt) (o : Option Spine) → k < length xs → x ≡ get_or xs (length xs - 1 - k) x →
    past_all (list_statements (take (length xs - k) xs)) o ≡ past_all (list_statements (take (length xs - (k + 1)) xs)) (past (statement_of x) o)
past_step xs k x o h is =
    let i = length xs - 1 - k in
    let more : length xs - k ≡ i + 1 = omega (arith, h) in
    let less : i ≡ length xs - (k + 1) = omega (arith, h) in
    ap (λ n. past_all (list_statements (take n xs)) o) more ∙ past_last xs i x o (omega (arith, h)) is
    ∙ ap (λ n. past_all (list_statements (take n xs)) (past (statement_of x) o)) less

pub past_whole : (xs : List Stmt) (o : Option Spine) → past_all (list_statements (take (length xs - 0) xs)) o ≡ past_all (list_statements xs) o
past_whole xs o = ap (λ l. past_all (list_statements l) o) (take_all xs (length xs - 0) (omega arith))

pub past_end : (xs : List Stmt) (k : ℕ) (o : Option Spine) → length xs ≤ k → past_all (list_statements (take (length xs - k) xs)) o ≡ o
past_end xs k o h = ap (λ l. past_all (list_statements l) o) (take_none xs (length xs - k) (omega (arith, h)))

pub way_end : (xs : List Stmt) (k b : ℕ) → length xs ≤ k → way_from xs k b ≡ None
way_end xs k b h = ap (λ l. past_all (list_statements (take k xs)) (block_spine (block (list_statements l)) b)) (drop_all xs k h) ∙ past_none (list_statements (take k xs))

rest_taken : (xs : List Stmt) (n : ℕ) → take (length xs - n) (drop n xs) ≡ drop n xs
rest_taken xs n = take_all (drop n xs) (length xs - n) (omega (arith, length-drop n xs))

pub more_changed : (xs : List Stmt) (n b : ℕ) (r : Bool) → r ≡ block_changes (block (list_statements (take (length xs - n) (drop n xs)))) b → r ≡ true → block_changes (block (list_statements (drop n xs))) b ≡ true
more_changed xs n b r e h = ap (λ l. block_changes (block (list_statements l)) b) (sym (rest_taken xs n)) ∙ sym e ∙ h
