-- What is read aside from the buffer that a run stores to.
use Rattle.std.proofs.Common.{◌≡◌, ℕ, ◌<◌, List, Option, Some, None, refl, ap, ◌∙◌, ℤ}
use Rattle.std.specs.Prelude.{IfSome}
use Rattle.numeric.specs.declared.ty.Ty.{Ty}
use Rattle.tree.specs.declared.value.Value.{Value}
use Rattle.tree.specs.Meaning.{typed}
use Rattle.plan.specs.Semantics.Memory.{Memory}
use Rattle.plan.specs.Semantics.Run.{look}
use Rattle.interpreter.specs.Buffers.Blocks.{memory_of}
use Rattle.interpreter.specs.Evaluation.Lanes.{found_as}
use Rattle.interpreter.specs.Pieces.{around, no_cells}
use Rattle.interpreter.specs.RunReadings.{source_at, IsAside, Means}
use Rattle.interpreter.specs.Runs.{IsBut}
use Rattle.interpreter.specs.declared.run_reading.RunReading.{RunReading}
use Rattle.interpreter.specs.declared.run_reading.Source.{Source}
use Rattle.interpreter.specs.declared.run_reading.Source.TheVariants.{Input, Buffer}
use Rattle.interpreter.proofs.Buts.{read_but}

-- a source has the same in every memory that differs in that buffer alone
pub aside_same : (r : RunReading) (m n : Memory Value) (s : Source) (p : List ℤ) → IsAside r s → IsBut r.buffer m n → source_at r n s p ≡ source_at r m s p
aside_same r m n Input p h but = refl
aside_same r m n (Buffer c) p h but = read_but r.buffer c m n p but h

-- what a source has in one memory and is cast to a type, a name that means it finds in each that differs in that buffer alone
pub finds_cast : (r : RunReading) (name : List ℕ) (s t : Source) (n : ℕ) (points : ℕ → List ℤ) (number : Ty → ℕ → ℤ) (c o : Option Ty) → s ≡ t → Means r name s →
    IfSome o (λ ty. (k : ℕ) → k < n → found_as c (source_at r (memory_of r.memory.now) t (points k)) ≡ Some (typed ty (number ty k))) →
    IfSome o (λ ty. (m : Memory Value) → IsBut r.buffer (memory_of r.memory.now) m → (k : ℕ) → k < n → found_as c (look (around r.piece.now no_cells) m name (points k)) ≡ Some (typed ty (number ty k)))
finds_cast r name s t n points number c None is means h = h
finds_cast r name s t n points number c (Some ty) is means h = λ m but k lt.
    ap (found_as c)
    (means.look m (points k)
    ∙ aside_same r (memory_of r.memory.now) m s (points k) means.aside but
    ∙ ap (λ (x : Source). source_at r (memory_of r.memory.now) x (points k)) is)
    ∙ h k lt

-- the same where nothing is cast
pub finds_aside : (r : RunReading) (name : List ℕ) (s t : Source) (n : ℕ) (points : ℕ → List ℤ) (number : Ty → ℕ → ℤ) (o : Option Ty) → s ≡ t → Means r name s →
    IfSome o (λ ty. (k : ℕ) → k < n → source_at r (memory_of r.memory.now) t (points k) ≡ Some (typed ty (number ty k))) →
    IfSome o (λ ty. (m : Memory Value) → IsBut r.buffer (memory_of r.memory.now) m → (k : ℕ) → k < n → look (around r.piece.now no_cells) m name (points k) ≡ Some (typed ty (number ty k)))
finds_aside r name s t n points number o is means h = finds_cast r name s t n points number None o is means h
