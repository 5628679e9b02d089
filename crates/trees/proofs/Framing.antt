-- Where nodes are only added, every node in use stays, and with it every tree.
use mathlib.Core.Path.{◌≡◌, refl, sym, ◌∙◌}
use mathlib.Core.Logic.{◌≢◌}
use Prim.Native.Nat.{ℕ, ◌<◌}
use native.Mathlib.Decide.{ℕ_discrete}
use Rattle.meaning.specs.Limits.{free_kind}
use Rattle.meaning.specs.Lent.{Nodes, kind_of}
use Rattle.meaning.specs.Trees.{Shaped, element}
use Rattle.meaning.specs.WellFormed.{LegalBits}
use Rattle.meaning.proofs.Reaching.{SomeShape, shaped-used, child-shaped}
use Rattle.trees.specs.Extends.{Extends}
use Rattle.trees.specs.Agreeing.{Agreeing}
use Rattle.trees.specs.Elements.{inside}
use Rattle.trees.proofs.Agreeing.{shape-agrees, element-agrees}

pub extends-refl : (s : Nodes) → Extends s s
extends-refl s = record { size = refl; same = λ n f. record { kind = refl; used = refl; cells = λ i l. refl } }

pub extends-trans : (s t u : Nodes) → Extends s t → Extends t u → Extends s u
extends-trans s t u p q = record {
  size = q.size ∙ p.size;
  same = λ n f.
      let a = p.same n f in
      let b = q.same n (rw a.kind f) in
      record { kind = b.kind ∙ a.kind; used = b.used ∙ a.used; cells = λ i l. b.cells i l ∙ a.cells i l };
}

-- a node that is in use stays so
pub use-stays : (s t : Nodes) (n : ℕ) → Extends s t → kind_of s n ≢ free_kind → kind_of t n ≢ free_kind
use-stays s t n e f = rw (e.same n f).kind f

-- and what is free was free
pub free_was : (s t : Nodes) (n : ℕ) → Extends s t → kind_of t n ≡ free_kind → kind_of s n ≡ free_kind
free_was s t n e q = pick (ℕ_discrete (kind_of s n) free_kind)
  where
    pick : Dec (kind_of s n ≡ free_kind) → kind_of s n ≡ free_kind
    pick (yes p) = p
    pick (no f) = sym (e.same n f).kind ∙ q

-- ---- what has a shape stays as it was

pub extends-agrees : {s t : Nodes} → Extends s t → Agreeing s t (SomeShape s)
extends-agrees {s} e = record { same = λ n k. e.same n (shaped-used s k.bits k.height k.elements n k.shape); closed = child-shaped s }

pub shape-stays : (s t : Nodes) (bits h m n : ℕ) → LegalBits bits → Extends s t → Shaped s bits h m n → Shaped t bits h m n
shape-stays s t bits h m n legal e p = shape-agrees (extends-agrees e) bits legal h m n (record { bits = bits; legal = legal; height = h; elements = m; shape = p }) p

pub element-stays : (s t : Nodes) (bits h m n i : ℕ) → LegalBits bits → Extends s t → Shaped s bits h m n → inside bits h i < m
    → element t bits h n i ≡ element s bits h n i
element-stays s t bits h m n i legal e p l =
    element-agrees (extends-agrees e) bits legal h m n i (record { bits = bits; legal = legal; height = h; elements = m; shape = p }) p l
