-- What a call answers is the model's, for each of its ends.
use mathlib.Core.Path.{◌≡◌, ap, ◌∙◌}
use mathlib.Core.Bool.{true, false, not, ◌&&◌}
use Prim.Native.Nat.{ℕ, ◌+◌, ◌-◌, ◌≤◌, ◌<◌}
use native.Mathlib.Omega.{arith}
use borrow.Author.Tests.{le-leb, lt-leb, lt-ltb, le-ltb, eq-eqb, ne_eqb}
use lib.Dec.{leb}
use Rattle.std.specs.Prelude.{Ok}
use Rattle.meaning.specs.Limits.{max_bits, max_length}
use Rattle.meaning.specs.Lent.{VersionRecord}
use Rattle.meaning.specs.Shape.{height}
use Rattle.meaning.specs.Trees.{height_of}
use Rattle.meaning.specs.Costs.{plain, new_cost, set_cost, push_cost, drop_cost}
use Rattle.store.specs.Store.{Store}
use Rattle.paths.specs.Edits.{Edit, edit, empty_leaf, new_edit, set_edit, push_edit, drop_edit}
use Rattle.paths.specs.Paths.{Made}
use Rattle.paths.specs.Ready.{made_of}
use Rattle.vector.specs.Calls.{edit_with, called_of, refused, done, new_call, set_call, push_call, drop_call}
use Rattle.vector.specs.declared.Edit as code
use Rattle.vector.specs.declared.Refused.TheVariants.{BadBits, NothingThere, Full, NoNodes}

pub done-answered : (s s' : Store) (m bits k : ℕ) (e : Edit) (r : code.Edit) → edit (made_of s' m) bits k ≡ e → r ≡ edit_with m bits k s.free s'.free
    → called_of s' (Ok r) ≡ done s.free e
done-answered s s' m bits k e r p q = rw (q, ← p)

-- ---- new

pub new-bad : (s : Store) (bits : ℕ) → not (leb 1 bits && leb bits max_bits) ≡ true → refused s BadBits ≡ new_call s bits
unfolding new_call
new-bad s bits t = rw t

pub new-short : (s : Store) (bits : ℕ) → not (leb 1 bits && leb bits max_bits) ≡ false → s.free < 1 → refused s NoNodes ≡ new_call s bits
unfolding new_call new_cost plain
new-short s bits t l = rw (t, lt-ltb s.free 1 l)

pub new-done : (s s' : Store) (m bits : ℕ) (r : code.Edit) → not (leb 1 bits && leb bits max_bits) ≡ false → 1 ≤ s.free
    → made_of s' m ≡ empty_leaf s → r ≡ edit_with m bits 0 s.free s'.free → called_of s' (Ok r) ≡ new_call s bits
unfolding new_call new_cost plain new_edit
new-done s s' m bits r t l e q =
    done-answered s s' m bits 0 (new_edit s bits) r (ap (λ (d : Made). edit d bits 0) e) q ∙ rw (t, le-ltb s.free 1 l)

-- ---- set

pub set-nothing : (s : Store) (v : VersionRecord) (i x : ℕ) → v.length ≤ i → refused s NothingThere ≡ set_call s v i x
unfolding set_call
set-nothing s v i x l = rw (le-leb v.length i l)

pub set-short : (s : Store) (v : VersionRecord) (i x h : ℕ) → i < v.length → h ≡ height_of v → s.free < h + 1 → refused s NoNodes ≡ set_call s v i x
unfolding set_call set_cost plain
set-short s v i x h l p f = rw (lt-leb v.length i l, lt-ltb s.free (height_of v + 1) (omega arith))

pub set-done : (s s' : Store) (v : VersionRecord) (i x h m : ℕ) (r : code.Edit) → i < v.length → h ≡ height_of v → h + 1 ≤ s.free
    → edit (made_of s' m) v.bits v.length ≡ set_edit s v i x → r ≡ edit_with m v.bits v.length s.free s'.free
    → called_of s' (Ok r) ≡ set_call s v i x
unfolding set_call set_cost plain
set-done s s' v i x h m r l p f e q =
    done-answered s s' m v.bits v.length (set_edit s v i x) r e q ∙ rw (lt-leb v.length i l, le-ltb s.free (height_of v + 1) (omega arith))

-- ---- push

pub push-full : (s : Store) (v : VersionRecord) (x : ℕ) → max_length ≤ v.length → refused s Full ≡ push_call s v x
unfolding push_call
push-full s v x l = rw (le-leb max_length v.length l)

pub push-short : (s : Store) (v : VersionRecord) (x h : ℕ) → v.length < max_length → h ≡ height v.bits (v.length + 1) → s.free < h + 1
    → refused s NoNodes ≡ push_call s v x
unfolding push_call push_cost plain
push-short s v x h l p f = rw (lt-leb max_length v.length l, lt-ltb s.free (height v.bits (v.length + 1) + 1) (omega arith))

pub push-done : (s s' : Store) (v : VersionRecord) (x h m : ℕ) (r : code.Edit) → v.length < max_length → h ≡ height v.bits (v.length + 1) → h + 1 ≤ s.free
    → edit (made_of s' m) v.bits (v.length + 1) ≡ push_edit s v x → r ≡ edit_with m v.bits (v.length + 1) s.free s'.free
    → called_of s' (Ok r) ≡ push_call s v x
unfolding push_call push_cost plain
push-done s s' v x h m r l p f e q =
    done-answered s s' m v.bits (v.length + 1) (push_edit s v x) r e q ∙ rw (lt-leb max_length v.length l, le-ltb s.free (height v.bits (v.length + 1) + 1) (omega arith))

-- ---- drop

pub drop-nothing : (s : Store) (v : VersionRecord) → v.length ≡ 0 → refused s NothingThere ≡ drop_call s v
unfolding drop_call
drop-nothing s v l = rw (eq-eqb v.length 0 l)

pub drop-short : (s : Store) (v : VersionRecord) (h : ℕ) → (v.length ≡ 0 → ⊥) → h ≡ height_of v → s.free < h + 1 → refused s NoNodes ≡ drop_call s v
unfolding drop_call drop_cost
drop-short s v h l p f = rw (ne_eqb v.length 0 l, lt-ltb s.free (height_of v + 1) (omega arith))

pub drop-done : (s s' : Store) (v : VersionRecord) (h m : ℕ) (r : code.Edit) → (v.length ≡ 0 → ⊥) → h ≡ height_of v → h + 1 ≤ s.free
    → edit (made_of s' m) v.bits (v.length - 1) ≡ drop_edit s v → r ≡ edit_with m v.bits (v.length - 1) s.free s'.free
    → called_of s' (Ok r) ≡ drop_call s v
unfolding drop_call drop_cost
drop-done s s' v h m r l p f e q =
    done-answered s s' m v.bits (v.length - 1) (drop_edit s v) r e q ∙ rw (ne_eqb v.length 0 l, le-ltb s.free (height_of v + 1) (omega arith))
