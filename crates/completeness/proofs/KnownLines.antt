-- No line of a group of whole functions names what is unknown or out of scope: of each kind of line one of the laws says it.
use Rattle.std.proofs.Common.{◌≡◌, ℕ, zero, suc, inl, inr}
use Rattle.plan.specs.Plan.{Statement, Seq, For, Let, First, Guard, Alloc, Fetch, Store, Publish, Statements, Empty, Then, Group, Plan}
use Rattle.plan.specs.View.{plan_of}
use Rattle.plan.specs.Certificate.Certificate.{Certificate, certificate_of}
use Rattle.meaning.specs.Algorithm.{Algorithm}
use Rattle.soundness.specs.Given.{outline_of}
use Rattle.soundness.specs.Outline.Flaws.{line_told}
use Rattle.validation.specs.Groups.Lines.{Here, in_loop, inside, in_later, before, after, is_empty}
use Rattle.validation.specs.Groups.Inside.{Inside, InsideOne, StandsIn}
use Rattle.validation.specs.Groups.Wrong.{NamesUnknown}
use Rattle.completeness.specs.Laws.{IsUnknownInside, IsStep, IsAlloc, IsFetch, IsStore, IsPublish, GroupsNameKnown}
use Rattle.completeness.proofs.GroupLines.{known as groups_known}
use Rattle.completeness.proofs.Scoped.{known as steps_known}
use Rattle.completeness.proofs.AllocLines.{known as allocs_known}
use Rattle.completeness.proofs.FetchLines.{known as fetches_known}
use Rattle.completeness.proofs.StoreLines.{known as stores_known}
use Rattle.completeness.proofs.PublishLines.{known as publishes_known}

-- ---- each line is of one kind

abbrev IsOf : ℕ → Statement → Type 0
IsOf zero = IsStep
IsOf (suc zero) = IsAlloc
IsOf (suc (suc zero)) = IsFetch
IsOf (suc (suc (suc zero))) = IsStore
IsOf (suc (suc (suc (suc k)))) = IsPublish

-- what is so of some line is so of one of some kind, where each line's is one of these
module _ (P : Statement → Here → Type 0) (Q : ℕ → Statement → Here → Type 0) (of : (s : Statement) (here : Here) → P s here → (k : ℕ) × Q k s here) where
  mutual
    pub of_kind : (s : Statement) (here : Here) → Inside P s here → (k : ℕ) × Inside (Q k) s here
    of_kind (Seq all) here h = of_kind_all all here h
    of_kind (For i x kind body) here (inl h) = let r = of (For i x kind body) here h in (r.0, inl r.1)
    of_kind (For i x kind body) here (inr h) = let r = of_kind body (in_loop i here) h in (r.0, inr r.1)
    of_kind (Let i pick forms) here h = of (Let i pick forms) here h
    of_kind (First i a b) here (inl h) = let r = of (First i a b) here h in (r.0, inl r.1)
    of_kind (First i a b) here (inr (inl h)) = let r = of_kind a (inside here) h in (r.0, inr (inl r.1))
    of_kind (First i a b) here (inr (inr h)) = let r = of_kind b (in_later a here) h in (r.0, inr (inr r.1))
    of_kind (Guard low high body) here (inl h) = let r = of (Guard low high body) here h in (r.0, inl r.1)
    of_kind (Guard low high body) here (inr h) = let r = of_kind body (inside here) h in (r.0, inr r.1)
    of_kind (Alloc b f places) here h = of (Alloc b f places) here h
    of_kind (Fetch b g region) here h = of (Fetch b g region) here h
    of_kind (Store b k at e) here h = of (Store b k at e) here h
    of_kind (Publish k) here h = of (Publish k) here h

    of_kind_all : (all : Statements) (here : Here) → InsideOne P all here → (k : ℕ) × InsideOne (Q k) all here
    of_kind_all Empty here h = absurd h
    of_kind_all (Then a rest) here (inl h) = let r = of_kind a (before (is_empty rest) here) h in (r.0, inl r.1)
    of_kind_all (Then a rest) here (inr h) = let r = of_kind_all rest (after a here) h in (r.0, inr r.1)

module _ (a : Algorithm) (p : Plan) (c : Certificate) (line n : ℕ) (g : Group) where
  abbrev At : Statement → Here → Type 0
  At s here = (line_told here.line ≡ line) × NamesUnknown a p c g (outline_of p c n g) s here

  abbrev AtKind : ℕ → Statement → Here → Type 0
  AtKind k s here = (line_told here.line ≡ line) × (IsOf k s × NamesUnknown a p c g (outline_of p c n g) s here)

  kind_of : (s : Statement) (here : Here) → At s here → (k : ℕ) × AtKind k s here
  kind_of (Seq all) here h = absurd h.1
  kind_of (For i x kind body) here h = (0, (h.0, (tt, h.1)))
  kind_of (Let i pick forms) here h = (0, (h.0, (tt, h.1)))
  kind_of (First i x y) here h = (0, (h.0, (tt, h.1)))
  kind_of (Guard low high body) here h = (0, (h.0, (tt, h.1)))
  kind_of (Alloc b f places) here h = (1, (h.0, (tt, h.1)))
  kind_of (Fetch b u region) here h = (2, (h.0, (tt, h.1)))
  kind_of (Store b k at e) here h = (3, (h.0, (tt, h.1)))
  kind_of (Publish k) here h = (4, (h.0, (tt, h.1)))

-- a line inside a group that names what is unknown is one of some kind that does
some_kind : (a : Algorithm) (p : Plan) (c : Certificate) (line : ℕ) → StandsIn p (λ n g s here. NamesUnknown a p c g (outline_of p c n g) s here) line → (k : ℕ) × IsUnknownInside (IsOf k) a p c line
some_kind a p c line h =
    let r = of_kind (At a p c line h.number h.group) (AtKind a p c line h.number h.group) (kind_of a p c line h.number h.group) h.group.body _ h.stands in
    (r.0, record { number = h.number; group = h.group; there = h.there; stands = r.1 })

pub known : GroupsNameKnown
known a s l well legal small regions groups all free told line (inl h) = groups_known a s l well legal small regions groups all line h
known a s l well legal small regions groups all free told line (inr h) = of r.0 r.1
  where
    r : (k : ℕ) × IsUnknownInside (IsOf k) a (plan_of l.plan) (certificate_of l.certificate) line
    r = some_kind a (plan_of l.plan) (certificate_of l.certificate) line h

    of : (k : ℕ) → IsUnknownInside (IsOf k) a (plan_of l.plan) (certificate_of l.certificate) line → ⊥
    of zero k = steps_known a s l well legal small regions groups all line k
    of (suc zero) k = allocs_known a s l well legal small regions groups all line k
    of (suc (suc zero)) k = fetches_known a s l well legal small regions groups all line k
    of (suc (suc (suc zero))) k = stores_known a s l well legal small regions groups all free told line k
    of (suc (suc (suc (suc j)))) k = publishes_known a s l well legal small regions groups all told line k
