-- Reading byte by byte.
use Rattle.std.proofs.Common.{◌≡◌, ◌⊎◌, ℕ, ◌+◌, ◌-◌, ◌^◌, List, [], ◌∷◌, ◌++◌, length, Option, None, Some, Ok, Err, refl, sym, ap, ◌∙◌, subst, inl, inr, arith}
use Rattle.std.proofs.lemmas.Grind.{fold-append}
use Rattle.std.specs.Io.KnownBytes.{Consumes, Keeps, IsAtEnd}
use Rattle.std.proofs.KnownBytes.{Consumes-nil, Consumes-trans, Consumes-kept}
use Rattle.pnm.specs.declared.error.PnmError.{PnmError}
use Rattle.pnm.specs.declared.error.PnmError.TheVariants as fault
use Rattle.pnm.specs.declared.state.Wanted.{Wanted}
use Rattle.pnm.specs.declared.state.State.{State}
use Rattle.pnm.specs.declared.state.State.TheVariants.{Start}
use Rattle.pnm.specs.Reading.{step, finish, onward, taken, with_last, closed, walk, Going, Stopped}
use Rattle.pnm.specs.Source.{IsFault, ReadsFile, StopsAtFault, Refuses, IsEndless, LooksOnce}
use Rattle.pnm.proofs.Faults.{stopped_by_byte, stopped_by_end}

-- the bytes so far lead to this state and these samples
pub record HasRead (w : Wanted) (old new : Option (List ℕ)) (turn : ℕ) (state : State) (samples : List ℕ) : Type 0 where
  pub bytes : List ℕ
  pub takes : Consumes old new bytes
  pub count : length bytes ≡ turn
  pub leads : walk w bytes ≡ Going state samples

pub has_read_nothing : (w : Wanted) (old : Option (List ℕ)) → HasRead w old old 0 Start []
has_read_nothing w old = record { bytes = []; takes = Consumes-nil old; count = refl; leads = refl }

-- another way to say where a walk stands
pub begins : (s t : State) (a b : List ℕ) → s ≡ t → a ≡ b → Going s a ≡ Going t b
begins s t a b h g = ap (λ u. Going u a) h ∙ ap (Going t) g

-- one byte more
walk_more : (w : Wanted) (bytes : List ℕ) (b : ℕ) (s : State) (samples : List ℕ) → walk w bytes ≡ Going s samples → walk w (bytes ++ b ∷ []) ≡ taken (step w s b) samples
walk_more w bytes b s samples h = fold-append (onward w) (Going Start []) bytes (b ∷ []) ∙ ap (λ p. onward w p b) h

length_more : (bytes : List ℕ) (b : ℕ) → length (bytes ++ b ∷ []) ≡ length bytes + 1
length_more [] b = refl
length_more (c ∷ bytes) b = let more = length_more bytes b in omega arith

pub has_read_more : (w : Wanted) (old mid new : Option (List ℕ)) (turn b : ℕ) (s t : State) (samples more : List ℕ)
    → HasRead w old mid turn s samples → Consumes mid new (b ∷ []) → taken (step w s b) samples ≡ Going t more → HasRead w old new (turn + 1) t more
has_read_more w old mid new turn b s t samples more h g e = record {
  bytes = h.bytes ++ b ∷ [];
  takes = Consumes-trans old mid new h.bytes (b ∷ []) h.takes g;
  count = length_more h.bytes b ∙ ap (λ n. n + 1) h.count;
  leads = walk_more w h.bytes b s samples h.leads ∙ e;
}

refuses_fault : (w : Wanted) (old new : Option (List ℕ)) (e : PnmError) → IsFault e → StopsAtFault w old new e → Refuses w old new e
refuses_fault w old new fault.Magic h g = g
refuses_fault w old new fault.Malformed h g = g
refuses_fault w old new fault.OtherImage h g = g
refuses_fault w old new fault.AboveMax h g = g
refuses_fault w old new fault.TooShort h g = g
refuses_fault w old new fault.Trailing h g = g
refuses_fault w old new fault.Device h g = absurd h
refuses_fault w old new fault.Memory h g = absurd h

-- what one look at the reader gave
pub looks_byte : (old new : Option (List ℕ)) (o : Option ℕ) (b : ℕ) → o ≡ Some b → LooksOnce old new (Ok o) → Consumes old new (b ∷ [])
looks_byte old new o b e h = subst (λ p. LooksOnce old new (Ok p)) e h

pub looks_end : (old new : Option (List ℕ)) (o : Option ℕ) → o ≡ None → LooksOnce old new (Ok o) → Keeps old new × IsAtEnd new
looks_end old new o e h = subst (λ p. LooksOnce old new (Ok p)) e h

-- the byte is the first fault
pub refuses_byte : (w : Wanted) (old mid new : Option (List ℕ)) (turn b : ℕ) (s : State) (samples : List ℕ) (e : PnmError)
    → HasRead w old mid turn s samples → Consumes mid new (b ∷ []) → (e ≡ fault.Memory) ⊎ (taken (step w s b) samples ≡ Stopped e) → Refuses w old new e
refuses_byte w old mid new turn b s samples e h g (inl memory) =
    subst (Refuses w old new) (sym memory) (h.bytes ++ b ∷ [], Consumes-trans old mid new h.bytes (b ∷ []) h.takes g)
refuses_byte w old mid new turn b s samples e h g (inr stops) = refuses_fault w old new e (stopped_by_byte w s b samples e stops) (record {
  bytes = h.bytes ++ b ∷ [];
  takes = Consumes-trans old mid new h.bytes (b ∷ []) h.takes g;
  first = inl (record {
    before = h.bytes;
    last = b;
    whole = refl;
    fine = record { state = s; samples = samples; leads = h.leads };
    stops = walk_more w h.bytes b s samples h.leads ∙ stops;
  });
})

-- the end is the first fault
pub refuses_end : (w : Wanted) (old mid new : Option (List ℕ)) (turn : ℕ) (s : State) (samples : List ℕ) (e : PnmError)
    → HasRead w old mid turn s samples → Keeps mid new → IsAtEnd new → (e ≡ fault.Memory) ⊎ (with_last samples (finish s) ≡ Err e) → Refuses w old new e
refuses_end w old mid new turn s samples e h g end (inl memory) =
    subst (Refuses w old new) (sym memory) (h.bytes, Consumes-kept old mid new h.bytes h.takes g)
refuses_end w old mid new turn s samples e h g end (inr stops) = refuses_fault w old new e (stopped_by_end s samples e stops) (record {
  bytes = h.bytes;
  takes = Consumes-kept old mid new h.bytes h.takes g;
  first = inr (end, record { state = s; samples = samples; leads = h.leads }, ap closed h.leads ∙ stops);
})

-- the reader failed
pub refuses_device : (w : Wanted) (old mid new : Option (List ℕ)) (turn : ℕ) (s : State) (samples : List ℕ) (e : PnmError)
    → HasRead w old mid turn s samples → Keeps mid new → e ≡ fault.Device → Refuses w old new e
refuses_device w old mid new turn s samples e h g device = subst (Refuses w old new) (sym device) (record {
  bytes = h.bytes;
  takes = Consumes-kept old mid new h.bytes h.takes g;
  fine = record { state = s; samples = samples; leads = h.leads };
})

-- no file is so long
pub refuses_endless : (w : Wanted) (old new : Option (List ℕ)) (turn : ℕ) (s : State) (samples : List ℕ) → HasRead w old new turn s samples → Refuses w old new fault.Device
refuses_endless w old new turn s samples h = record { bytes = h.bytes; takes = h.takes; fine = record { state = s; samples = samples; leads = h.leads } }

pub is_endless : (w : Wanted) (old new : Option (List ℕ)) (turn : ℕ) (s : State) (samples : List ℕ) → turn ≡ 2 ^ 64 - 1 → HasRead w old new turn s samples → IsEndless old new
is_endless w old new turn s samples e h = (h.bytes, h.takes, h.count ∙ e)

-- the bytes are a whole file
pub reads_file : (w : Wanted) (old mid new : Option (List ℕ)) (turn : ℕ) (s : State) (samples all : List ℕ)
    → HasRead w old mid turn s samples → Keeps mid new → IsAtEnd new → with_last samples (finish s) ≡ Ok all → ReadsFile w old new all
reads_file w old mid new turn s samples all h g end e = record {
  bytes = h.bytes;
  takes = Consumes-kept old mid new h.bytes h.takes g;
  end = end;
  file = ap closed h.leads ∙ e;
}
