-- Where the claims of a piece's body stand: behind its lets, its own buffer, and what it fetches so far.
use Rattle.std.proofs.Common.{◌≡◌, ℕ, suc, ◌+◌, ◌-◌, ◌*◌, ◌<◌, ◌≤◌, Bool, true, false, ◌||◌, List, [], ◌∷◌, ◌++◌, length, Option, Some, None, refl, sym, ap, ◌∙◌, subst, inl, inr, arith}
use Rattle.std.specs.Prelude.{◌==◌, nat_lt, if◌then◌else◌, string_bytes}
use Rattle.std.specs.List.{list_any}
use Rattle.std.proofs.lemmas.Bool.Decides.{nat_tests}
use Rattle.lin.specs.Forms.{Form}
use Rattle.lin.specs.declared.span.Span1.{Span1}
use Rattle.lin.specs.declared.scope.Binding.{Binding}
use Rattle.plan.specs.declared.stmt.Places.{Places}
use Rattle.plan.specs.declared.certificate.cert.Claim.{Claim}
use Rattle.plan.specs.declared.certificate.cert.Need.{Need}
use Rattle.plan.specs.Plan.{Statement, Seq, For, Let, First, Guard, Alloc, Fetch, Store, Publish, Statements, Empty, Then, block}
use Rattle.plan.specs.Lines.{lines, block_lines}
use Rattle.plan.specs.Semantics.Setting.{Buffer, allocated, block_allocated}
use Rattle.soundness.specs.Claims.{In}
use Rattle.soundness.proofs.Refines.{eq_refl}
use Rattle.validation.specs.Certificate.Placing.{Spot, in_loop, past, spot_at, block_spot_at}
use Rattle.sched.specs.declared.skeleton.Step.{Step}
use Rattle.sched.specs.declared.skeleton.Step.TheVariants.{Turns, Named, Tested}
use Rattle.sched.specs.Runs.{lines_to}
use Rattle.sched.specs.Skeleton.{NestText}
use Rattle.sched.specs.Stored.{FormulaText, StoredText}
use Rattle.sched.specs.Loading.{Loads}
use Rattle.blocks.specs.Bodies.{step_lines, IsStore, AreNests}
use Rattle.sched.specs.Fetches.{Entry}
use Rattle.blocks.specs.Fetches.{FetchText, with_fetches}
use Rattle.lower.specs.Fetches.{Calls, AreFetched}
use Rattle.completeness.proofs.Standing.{AreLets}

-- ---- spots grow

abbrev pub Has : List ℕ → ℕ → Type 0
Has xs s = list_any (λ x. x == s) xs ≡ true

-- what is in scope at the one is so at the other
pub record Grows (x y : Spot) : Type 0 where
  pub symbols : (s : ℕ) → Has x.symbols s → Has y.symbols s
  pub buffers : (b : ℕ) → Has x.buffers b → Has y.buffers b

same_spot : (x : Spot) → Grows x x
same_spot x = record { symbols = λ s h. h; buffers = λ b h. h }

two_spots : (x y z : Spot) → Grows x y → Grows y z → Grows x z
two_spots x y z h k = record { symbols = λ s q. k.symbols s (h.symbols s q); buffers = λ b q. k.buffers b (h.buffers b q) }

pub has_first : (xs ys : List ℕ) (s : ℕ) → Has xs s → Has (xs ++ ys) s
has_first [] ys s h = absurd (cc h)
has_first (x ∷ xs) ys s h = of (x == s) h (has_first xs ys s)
  where
    of : (b : Bool) → (b || list_any (λ x. x == s) xs) ≡ true → (Has xs s → Has (xs ++ ys) s) → (b || list_any (λ x. x == s) (xs ++ ys)) ≡ true
    of true q rest = refl
    of false q rest = rest q

pub has_last : (xs : List ℕ) (s : ℕ) → Has (xs ++ s ∷ []) s
has_last [] s = ap (λ (b : Bool). b || false) (eq_refl s)
has_last (x ∷ xs) s = of (x == s) (has_last xs s)
  where
    of : (b : Bool) → Has (xs ++ s ∷ []) s → (b || list_any (λ x. x == s) (xs ++ s ∷ [])) ≡ true
    of true h = refl
    of false h = h

past_grows : (a : Statement) (x : Spot) → Grows x (past a x)
past_grows (Seq all) x = same_spot x
past_grows (For i span kind body) x = same_spot x
past_grows (Let i pick forms) x = record { symbols = λ s h. has_first x.symbols (i ∷ []) s h; buffers = λ b h. h }
past_grows (First i a b) x = same_spot x
past_grows (Guard low high body) x = same_spot x
past_grows (Alloc b f places) x = record { symbols = λ s h. h; buffers = λ c h. has_first x.buffers (b ∷ []) c h }
past_grows (Fetch b g region) x = same_spot x
past_grows (Store b k at e) x = same_spot x
past_grows (Publish c) x = same_spot x

-- ---- blocks

-- behind a statement
behind : (a : Statement) (rest : Statements) (x : Spot) (k : ℕ) → block_spot_at (Then a rest) x (lines a + k) ≡ block_spot_at rest (past a x) k
behind a rest x k =
    let test : nat_lt (lines a + k) (lines a) ≡ false = grind (arith, nat_tests) in
    let less : (lines a + k) - lines a ≡ k = omega arith in
    ap (λ (b : Bool). if b then spot_at a x (lines a + k) else block_spot_at rest (past a x) ((lines a + k) - lines a)) test ∙ ap (block_spot_at rest (past a x)) less

-- in a statement
within : (a : Statement) (rest : Statements) (x : Spot) (k : ℕ) → k < lines a → block_spot_at (Then a rest) x k ≡ spot_at a x k
within a rest x k less =
    let test : nat_lt k (lines a) ≡ true = grind (arith, nat_tests) in
    ap (λ (b : Bool). if b then spot_at a x k else block_spot_at rest (past a x) (k - lines a)) test

-- behind some statements
abbrev pub past_all : List Statement → Spot → Spot
past_all [] x = x
past_all (a ∷ rest) x = past_all rest (past a x)

past_all_grows : (xs : List Statement) (x : Spot) → Grows x (past_all xs x)
past_all_grows [] x = same_spot x
past_all_grows (a ∷ xs) x = two_spots x (past a x) (past_all xs (past a x)) (past_grows a x) (past_all_grows xs (past a x))

all_behind : (xs ys : List Statement) (x : Spot) (k : ℕ) → block_spot_at (block (xs ++ ys)) x (block_lines (block xs) + k) ≡ block_spot_at (block ys) (past_all xs x) k
all_behind [] ys x k = (let none : 0 + k ≡ k = omega arith in ap (block_spot_at (block ys) x) none)
all_behind (a ∷ xs) ys x k =
    let count : (lines a + block_lines (block xs)) + k ≡ lines a + (block_lines (block xs) + k) = omega arith in
    ap (block_spot_at (block (a ∷ (xs ++ ys))) x) count ∙ behind a (block (xs ++ ys)) x (block_lines (block xs) + k) ∙ all_behind xs ys (past a x) k

all_within : (xs ys : List Statement) (x : Spot) (k : ℕ) → k < block_lines (block xs) → block_spot_at (block (xs ++ ys)) x k ≡ block_spot_at (block xs) x k
all_within [] ys x k less = absurd (omega (arith, less))
all_within (a ∷ xs) ys x k less = of (nat_lt k (lines a)) refl (λ high. all_within xs ys (past a x) (k - lines a) high)
  where
    of : (b : Bool) → nat_lt k (lines a) ≡ b → (k - lines a < block_lines (block xs) → block_spot_at (block (xs ++ ys)) (past a x) (k - lines a) ≡ block_spot_at (block xs) (past a x) (k - lines a)) →
        (if b then spot_at a x k else block_spot_at (block (xs ++ ys)) (past a x) (k - lines a)) ≡ (if b then spot_at a x k else block_spot_at (block xs) (past a x) (k - lines a))
    of true t rest = refl
    of false t rest = let low : lines a ≤ k = grind (arith, nat_tests, t) in rest (omega (arith, low, less))

-- ---- where a claim stands

-- in this code, which begins at this line, seen from this spot on
pub record Stands (x : Spot) (code : Statements) (line : ℕ) (claim : Claim) : Type 0 where
  pub low : line ≤ claim.line
  pub less : claim.line < line + block_lines code
  pub spot : Spot
  pub at : block_spot_at code x (claim.line - line) ≡ Some spot
  pub grows : Grows x spot
  pub buffer : Has spot.buffers claim.buffer

-- some lines before it
stands_behind : (x y : Spot) (code rest : Statements) (line next m : ℕ) (claim : Claim) → next ≡ line + m → block_lines code ≡ m + block_lines rest → Grows x y →
    ((k : ℕ) → block_spot_at code x (m + k) ≡ block_spot_at rest y k) → Stands y rest next claim → Stands x code line claim
stands_behind x y code rest line next m claim e long grows steps h =
    let low = h.low in
    let less = h.less in
    let count : claim.line - line ≡ m + (claim.line - next) = omega (arith, e, low) in
    record {
      low = omega (arith, e, low);
      less = omega (arith, e, long, less);
      spot = h.spot;
      at = ap (block_spot_at code x) count ∙ steps (claim.line - next) ∙ h.at;
      grows = two_spots x y h.spot grows h.grows;
      buffer = h.buffer;
    }

-- ---- lets

abbrev pub past_lets : List Step → Spot → Spot
past_lets [] x = x
past_lets (Turns i span kind ∷ ss) x = x
past_lets (Named i pick fs ∷ ss) x = past_lets ss (past (Let i pick fs) x)
past_lets (Tested low high ∷ ss) x = x

pub lets_grow : (ss : List Step) (x : Spot) → Grows x (past_lets ss x)
lets_grow [] x = same_spot x
lets_grow (Turns i span kind ∷ ss) x = same_spot x
lets_grow (Named i pick fs ∷ ss) x = two_spots x (past (Let i pick fs) x) (past_lets ss (past (Let i pick fs) x)) (past_grows (Let i pick fs) x) (lets_grow ss (past (Let i pick fs) x))
lets_grow (Tested low high ∷ ss) x = same_spot x

lets_behind : (ss : List Step) (inner : Statements) (x : Spot) (k : ℕ) → AreLets ss → block_spot_at (lines_to ss inner) x (step_lines ss + k) ≡ block_spot_at inner (past_lets ss x) k
lets_behind [] inner x k h = (let none : 0 + k ≡ k = omega arith in ap (block_spot_at inner x) none)
lets_behind (Turns i span kind ∷ ss) inner x k h = absurd h
lets_behind (Named i pick fs ∷ ss) inner x k h =
    let count : (1 + step_lines ss) + k ≡ 1 + (step_lines ss + k) = omega arith in
    ap (block_spot_at (lines_to (Named i pick fs ∷ ss) inner) x) count ∙ behind (Let i pick fs) (lines_to ss inner) x (step_lines ss + k) ∙ lets_behind ss inner (past (Let i pick fs) x) k h
lets_behind (Tested low high ∷ ss) inner x k h = absurd h

lets_long : (ss : List Step) (inner : Statements) → AreLets ss → block_lines (lines_to ss inner) ≡ step_lines ss + block_lines inner
lets_long [] inner h = omega arith
lets_long (Turns i span kind ∷ ss) inner h = absurd h
lets_long (Named i pick fs ∷ ss) inner h = let rest = lets_long ss inner h in omega (arith, rest)
lets_long (Tested low high ∷ ss) inner h = absurd h

pub stands_in_lets : (ss : List Step) (inner : Statements) (x : Spot) (line next : ℕ) (claim : Claim) → AreLets ss → next ≡ line + step_lines ss → Stands (past_lets ss x) inner next claim →
    Stands x (lines_to ss inner) line claim
stands_in_lets ss inner x line next claim lets e h =
    stands_behind x (past_lets ss x) (lines_to ss inner) inner line next (step_lines ss) claim e (lets_long ss inner lets) (lets_grow ss x) (λ k. lets_behind ss inner x k lets) h

pub stands_past : (a : Statement) (rest : Statements) (x : Spot) (line next : ℕ) (claim : Claim) → next ≡ line + lines a → Stands (past a x) rest next claim → Stands x (Then a rest) line claim
stands_past a rest x line next claim e h = stands_behind x (past a x) (Then a rest) rest line next (lines a) claim e refl (past_grows a x) (λ k. behind a rest x k) h

-- ---- what is fetched

abbrev pub past_fetches : List FetchText → Spot → Spot
past_fetches [] x = x
past_fetches (f ∷ fs) x = past_fetches fs (past (Fetch f.buffer f.group f.region) (past (Alloc f.buffer f.function f.places) x))

pub fetches_grow : (fs : List FetchText) (x : Spot) → Grows x (past_fetches fs x)
fetches_grow [] x = same_spot x
fetches_grow (f ∷ fs) x =
    let y = past (Alloc f.buffer f.function f.places) x in
    let z = past (Fetch f.buffer f.group f.region) y in
    two_spots x y (past_fetches fs z) (past_grows (Alloc f.buffer f.function f.places) x)
    (two_spots y z (past_fetches fs z) (past_grows (Fetch f.buffer f.group f.region) y) (fetches_grow fs z))

-- behind all of it
pub stands_fetched : (fs : List FetchText) (rest : List Statement) (x : Spot) (line next : ℕ) (claim : Claim) → next ≡ line + 2 * length fs → Stands (past_fetches fs x) (block rest) next claim →
    Stands x (block (with_fetches fs rest)) line claim
stands_fetched [] rest x line next claim e h = (let same : next ≡ line = omega (arith, e) in subst (λ (n : ℕ). Stands x (block rest) n claim) same h)
stands_fetched (f ∷ fs) rest x line next claim e h =
    let a = Alloc f.buffer f.function f.places in
    let b = Fetch f.buffer f.group f.region in
    let inner = stands_fetched fs rest (past b (past a x)) (line + 2) next claim (omega (arith, e)) h in
    stands_past a (Then b (block (with_fetches fs rest))) x line (line + 1) claim refl
    (stands_past b (block (with_fetches fs rest)) (past a x) (line + 1) (line + 2) claim (omega arith) inner)

-- the claim of one fetch
module _ (calls : Calls) (grid : List Binding) (n : ℕ) (rest : List Statement) where
  pub stands_fetch : (b line : ℕ) (xs : List (ℕ × Entry)) (fs : List FetchText) (ws : List Need) (cs : List Claim) → AreFetched calls grid n b line xs fs ws cs → (x : Spot) (claim : Claim) →
      In claim cs → Stands x (block (with_fetches fs rest)) line claim
  stands_fetch b line [] [] [] [] h x claim m = absurd m
  stands_fetch b line [] [] [] (c ∷ cs) h x claim m = absurd h
  stands_fetch b line [] [] (w ∷ ws) cs h x claim m = absurd h
  stands_fetch b line [] (f ∷ fs) ws cs h x claim m = absurd h
  stands_fetch b line (g ∷ xs) [] ws cs h x claim m = absurd h
  stands_fetch b line (g ∷ xs) (f ∷ fs) [] cs h x claim m = absurd h
  stands_fetch b line (g ∷ xs) (f ∷ fs) (w ∷ ws) [] h x claim m = absurd h
  stands_fetch b line (g ∷ xs) (f ∷ fs) (w ∷ ws) (c ∷ cs) h x claim (inl e) =
      let y = past (Alloc f.buffer f.function f.places) x in
      let after : claim.line ≡ line + 1 = ap (λ (c : Claim). c.line) e ∙ h.0.claimed.after in
      let count : claim.line - line ≡ 1 + 0 = omega (arith, after) in
      let held : claim.buffer ≡ f.buffer = ap (λ (c : Claim). c.buffer) e ∙ h.0.claimed.buffered ∙ sym h.0.buffered in
      record {
        low = omega (arith, after);
        less = omega (arith, after);
        spot = y;
        at = ap (block_spot_at (block (with_fetches (f ∷ fs) rest)) x) count
            ∙ behind (Alloc f.buffer f.function f.places) (Then (Fetch f.buffer f.group f.region) (block (with_fetches fs rest))) x 0;
        grows = past_grows (Alloc f.buffer f.function f.places) x;
        buffer = subst (Has (x.buffers ++ f.buffer ∷ [])) (sym held) (has_last x.buffers f.buffer);
      }
  stands_fetch b line (g ∷ xs) (f ∷ fs) (w ∷ ws) (c ∷ cs) h x claim (inr m) =
      let a = Alloc f.buffer f.function f.places in
      let d = Fetch f.buffer f.group f.region in
      let inner = stands_fetch (b + 1) (line + 2) xs fs ws cs h.2 (past d (past a x)) claim m in
      stands_past a (Then d (block (with_fetches fs rest))) x line (line + 1) claim refl
      (stands_past d (block (with_fetches fs rest)) (past a x) (line + 1) (line + 2) claim (omega arith) inner)

-- ---- nests

-- the last line of what stands inside some steps
record IsLast (x : Spot) (code : Statements) : Type 0 where
  some : 1 ≤ block_lines code
  spot : Spot
  at : block_spot_at code x (block_lines code - 1) ≡ Some spot
  grows : Grows x spot

-- a statement with an `end`
module _ (x : Spot) where
  for_last : (i : ℕ) (span : Span1) (kind : _) (body : Statement) → IsLast x (Then (For i span kind body) Empty)
  for_last i span kind body =
      let n = lines body in
      let count : ((n + 2) + 0) - 1 ≡ suc n = omega arith in
      let test : nat_lt n n ≡ false = grind (arith, nat_tests) in
      let here : (n == n) ≡ true = eq_refl n in
      record {
        some = omega arith;
        spot = x;
        at = ap (block_spot_at (Then (For i span kind body) Empty) x) count ∙ within (For i span kind body) Empty x (suc n) (omega arith)
            ∙ ap (λ (b : Bool). if b then spot_at body (in_loop i x) n else (if n == n then Some x else None)) test ∙ ap (λ (b : Bool). if b then Some x else None) here;
        grows = same_spot x;
      }

  guard_last : (low high : Form) (body : Statement) → IsLast x (Then (Guard low high body) Empty)
  guard_last low high body =
      let n = lines body in
      let count : ((n + 2) + 0) - 1 ≡ suc n = omega arith in
      let test : nat_lt n n ≡ false = grind (arith, nat_tests) in
      let here : (n == n) ≡ true = eq_refl n in
      record {
        some = omega arith;
        spot = x;
        at = ap (block_spot_at (Then (Guard low high body) Empty) x) count ∙ within (Guard low high body) Empty x (suc n) (omega arith)
            ∙ ap (λ (b : Bool). if b then spot_at body x n else (if n == n then Some x else None)) test ∙ ap (λ (b : Bool). if b then Some x else None) here;
        grows = same_spot x;
      }

steps_last : (g : StoredText) (fs : List FormulaText) (ls : Loads) (d : ℕ) (n : NestText) (store : Statement) → IsStore g fs ls d n store → (ss : List Step) (x : Spot) →
    IsLast x (lines_to ss (Then store Empty))
steps_last g fs ls d n (Store b k cs e) h [] x = record { some = omega arith; spot = x; at = refl; grows = same_spot x }
steps_last g fs ls d n (Seq all) h [] x = absurd h
steps_last g fs ls d n (For i span kind body) h [] x = absurd h
steps_last g fs ls d n (Let i pick forms) h [] x = absurd h
steps_last g fs ls d n (First i a b) h [] x = absurd h
steps_last g fs ls d n (Guard low high body) h [] x = absurd h
steps_last g fs ls d n (Alloc b f places) h [] x = absurd h
steps_last g fs ls d n (Fetch b f region) h [] x = absurd h
steps_last g fs ls d n (Publish c) h [] x = absurd h
steps_last g fs ls d n store h (Turns i span kind ∷ ss) x = for_last x i span kind (Seq (lines_to ss (Then store Empty)))
steps_last g fs ls d n store h (Named i pick forms ∷ ss) x =
    let a = Let i pick forms in
    let rest = lines_to ss (Then store Empty) in
    let w = steps_last g fs ls d n store h ss (past a x) in
    let some = w.some in
    let count : (1 + block_lines rest) - 1 ≡ 1 + (block_lines rest - 1) = omega (arith, some) in
    record {
      some = omega arith;
      spot = w.spot;
      at = ap (block_spot_at (Then a rest) x) count ∙ behind a rest x (block_lines rest - 1) ∙ w.at;
      grows = two_spots x (past a x) w.spot (past_grows a x) w.grows;
    }
steps_last g fs ls d n store h (Tested low high ∷ ss) x = guard_last x low high (Seq (lines_to ss (Then store Empty)))

joined_lines : (xs ys : List Statement) → block_lines (block (xs ++ ys)) ≡ block_lines (block xs) + block_lines (block ys)
joined_lines [] ys = omega arith
joined_lines (a ∷ xs) ys = let rest = joined_lines xs ys in omega (arith, rest)

pub joined_twice : (xs ys zs : List Statement) → (xs ++ ys) ++ zs ≡ xs ++ (ys ++ zs)
joined_twice [] ys zs = refl
joined_twice (a ∷ xs) ys zs = ap (λ (r : List Statement). a ∷ r) (joined_twice xs ys zs)

module _ (g : StoredText) (fs : List FormulaText) (r : List Span1) (rest : List Statement) where
  pub stands_nest : (ls : Loads) (c line d : ℕ) (ns : List NestText) (xs : List Statement) (cs : List Claim) → AreNests g fs r ls c line d ns xs cs → (x : Spot) → Has x.buffers 0 →
      (claim : Claim) → In claim cs → Stands x (block (xs ++ rest)) line claim
  stands_nest ls c line d [] xs cs h x own claim m = absurd (subst (In claim) h.1 m)
  stands_nest ls c line d (n ∷ ns) xs [] h x own claim m = absurd h
  stands_nest ls c line d (n ∷ ns) xs (w ∷ cs) h x own claim (inl e) =
      let first = h.first in
      let nest = h.here.nest in
      let last = subst (IsLast x) (sym nest.comes) (steps_last g fs ls d n nest.store nest.stores n.steps x) in
      let some = last.some in
      let after : claim.line ≡ (line + block_lines (block first)) - 1 = ap (λ (c : Claim). c.line) e ∙ h.here.claims.after in
      let count : claim.line - line ≡ block_lines (block first) - 1 = omega (arith, after, some) in
      let held : claim.buffer ≡ 0 = ap (λ (c : Claim). c.buffer) e ∙ h.here.claims.buffered in
      let are : xs ++ rest ≡ first ++ (h.others ++ rest) = ap (λ (ys : List Statement). ys ++ rest) h.are ∙ joined_twice first h.others rest in
      let long = joined_lines first (h.others ++ rest) in
      let here : Stands x (block (first ++ (h.others ++ rest))) line claim = record {
        low = omega (arith, after, some);
        less = omega (arith, after, some, long);
        spot = last.spot;
        at = ap (block_spot_at (block (first ++ (h.others ++ rest))) x) count ∙ all_within first (h.others ++ rest) x (block_lines (block first) - 1) (omega (arith, some)) ∙ last.at;
        grows = last.grows;
        buffer = subst (Has last.spot.buffers) (sym held) (last.grows.buffers 0 own);
      } in
      subst (λ (ys : List Statement). Stands x (block ys) line claim) (sym are) here
  stands_nest ls c line d (n ∷ ns) xs (w ∷ cs) h x own claim (inr m) =
      let first = h.first in
      let y = past_all first x in
      let grows = past_all_grows first x in
      let are : xs ++ rest ≡ first ++ (h.others ++ rest) = ap (λ (ys : List Statement). ys ++ rest) h.are ∙ joined_twice first h.others rest in
      let inner = stands_nest (ls ++ (g.subject.name, c) ∷ []) (c + 1) (line + block_lines (block first)) (d + 1) ns h.others cs h.behind y (grows.buffers 0 own) claim m in
      let here : Stands x (block (first ++ (h.others ++ rest))) line claim = stands_behind x y (block (first ++ (h.others ++ rest))) (block (h.others ++ rest)) line (line + block_lines (block first))
      (block_lines (block first)) claim refl (joined_lines first (h.others ++ rest)) grows (λ k. all_behind first (h.others ++ rest) x k) inner in
      subst (λ (ys : List Statement). Stands x (block ys) line claim) (sym are) here

-- ---- which function a buffer has

pub lets_allot : (ss : List Step) (inner : Statements) (b : ℕ) → AreLets ss → block_allocated (lines_to ss inner) b ≡ block_allocated inner b
lets_allot [] inner b h = refl
lets_allot (Turns i span kind ∷ ss) inner b h = absurd h
lets_allot (Named i pick fs ∷ ss) inner b h = lets_allot ss inner b h
lets_allot (Tested low high ∷ ss) inner b h = absurd h

-- a buffer of this function
pub record IsBufferOf (o : Option Buffer) (x : List ℕ) : Type 0 where
  pub buffer : Buffer
  pub is : o ≡ Some buffer
  pub named : buffer.function ≡ x

pub own_allotted : (ss : List Step) (x : List ℕ) (places : List Places) (rest : Statements) → AreLets ss → IsBufferOf (allocated (Seq (lines_to ss (Then (Alloc 0 x places) rest))) 0) x
own_allotted ss x places rest h = record { buffer = record { function = x; places = places }; is = lets_allot ss (Then (Alloc 0 x places) rest) 0 h; named = refl }

module _ (calls : Calls) (grid : List Binding) (n : ℕ) (rest : List Statement) where
  fetch_allotted : (b line : ℕ) (xs : List (ℕ × Entry)) (fs : List FetchText) (ws : List Need) (cs : List Claim) → AreFetched calls grid n b line xs fs ws cs → (claim : Claim) → In claim cs →
      (b ≤ claim.buffer) × IsBufferOf (block_allocated (block (with_fetches fs rest)) claim.buffer) (string_bytes claim.function)
  fetch_allotted b line [] [] [] [] h claim m = absurd m
  fetch_allotted b line [] [] [] (c ∷ cs) h claim m = absurd h
  fetch_allotted b line [] [] (w ∷ ws) cs h claim m = absurd h
  fetch_allotted b line [] (f ∷ fs) ws cs h claim m = absurd h
  fetch_allotted b line (g ∷ xs) [] ws cs h claim m = absurd h
  fetch_allotted b line (g ∷ xs) (f ∷ fs) [] cs h claim m = absurd h
  fetch_allotted b line (g ∷ xs) (f ∷ fs) (w ∷ ws) [] h claim m = absurd h
  fetch_allotted b line (g ∷ xs) (f ∷ fs) (w ∷ ws) (c ∷ cs) h claim (inl e) =
      let held : claim.buffer ≡ b = ap (λ (c : Claim). c.buffer) e ∙ h.0.claimed.buffered in
      let same : f.buffer ≡ claim.buffer = h.0.buffered ∙ sym held in
      let test : (f.buffer == claim.buffer) ≡ true = ap (λ (k : ℕ). k == claim.buffer) same ∙ eq_refl claim.buffer in
      let named : f.function ≡ string_bytes claim.function = h.0.named ∙ sym h.0.claimed.named ∙ ap (λ (c : Claim). string_bytes c.function) (sym e) in
      let found : block_allocated (block (with_fetches (f ∷ fs) rest)) claim.buffer ≡ Some (record { function = f.function; places = f.places }) = rw test refl in
      (omega (arith, held), record { buffer = record { function = f.function; places = f.places }; is = found; named = named })
  fetch_allotted b line (g ∷ xs) (f ∷ fs) (w ∷ ws) (c ∷ cs) h claim (inr m) =
      let inner = fetch_allotted (b + 1) (line + 2) xs fs ws cs h.2 claim m in
      let low = inner.0 in
      let mine = h.0.buffered in
      let differs : (f.buffer ≡ claim.buffer → ⊥) = λ e. omega (arith, e, mine, low) in
      let test : (f.buffer == claim.buffer) ≡ false = grind (arith, nat_tests) in
      let found : block_allocated (block (with_fetches (f ∷ fs) rest)) claim.buffer ≡ block_allocated (block (with_fetches fs rest)) claim.buffer = rw test refl in
      (omega (arith, low), record { buffer = inner.1.buffer; is = found ∙ inner.1.is; named = inner.1.named })

  pub fetch_has : (ss : List Step) (x : List ℕ) (places : List Places) (line : ℕ) (xs : List (ℕ × Entry)) (fs : List FetchText) (ws : List Need) (cs : List Claim) → AreLets ss →
      AreFetched calls grid n 1 line xs fs ws cs → (claim : Claim) → In claim cs →
      IsBufferOf (allocated (Seq (lines_to ss (block (Alloc 0 x places ∷ with_fetches fs rest)))) claim.buffer) (string_bytes claim.function)
  fetch_has ss x places line xs fs ws cs lets h claim m =
      let w = fetch_allotted 1 line xs fs ws cs h claim m in
      let low = w.0 in
      let differs : (0 ≡ claim.buffer → ⊥) = λ e. omega (arith, e, low) in
      let test : (0 == claim.buffer) ≡ false = grind (arith, nat_tests) in
      let found : block_allocated (block (Alloc 0 x places ∷ with_fetches fs rest)) claim.buffer ≡ block_allocated (block (with_fetches fs rest)) claim.buffer = rw test refl in
      record {
        buffer = w.1.buffer;
        is = lets_allot ss (block (Alloc 0 x places ∷ with_fetches fs rest)) claim.buffer lets ∙ found ∙ w.1.is;
        named = w.1.named;
      }
