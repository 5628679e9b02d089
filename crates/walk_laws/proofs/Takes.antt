-- The promises of `next` and `next_back`: of an open walk they answer the first and the last of what is left, and an ended walk stays as it is.
use Rattle.std.specs.Prelude.{Some, None}
use mathlib.Core.Path.{◌≡◌, refl, sym, ap, ◌∙◌}
use mathlib.Core.Logic.{◌≢◌, ◌↔◌, ⊎_elim}
use mathlib.Core.Bool.{Bool, true, false}
use mathlib.Core.List.{List, [], ◌∷◌}
use Prim.Native.Nat.{ℕ, zero, ◌+◌, ◌-◌, ◌*◌, ◌≤◌, ◌<◌}
use native.Mathlib.Nat.{lt_irrefl, eq-or-lt_of_le}
use native.Mathlib.Omega.{arith}
use lib.ListN.{get_or}
use borrow.Author.Tests.{eq-eqb, ne_eqb}
use Rattle.meaning.specs.Limits.{walk_count, walk_levels, places}
use Rattle.meaning.specs.Lent.{Nodes, VersionRecord, WalkSlices, WalkRecord, walk_record}
use Rattle.meaning.specs.Trees.{height_of, element, contents}
use Rattle.meaning.specs.Walks.{forward_stack, backward_stack}
use Rattle.meaning.specs.WellFormed.{Open, LegalWalk}
use Rattle.meaning.specs.Table.{taking}
use Rattle.meaning.specs.Stands.{left_between, walk_of}
use Rattle.meaning.specs.Effects.{first_item, last_item, without_first, without_last}
use Rattle.shape.proofs.Capacity.{height-levels}
use Rattle.lookup.proofs.Found.{element-in, contents-at, contents-length}
use Rattle.walk.specs.Walk.{levels_of, version_of_walk, Walkable, is_ended, Step, stepped, stack_at, taken_of, taken_by}
use Rattle.walk_laws.specs.Took.{SlicesFit, front_taken, back_taken, Took}
use Rattle.walk_laws.proofs.Ends.{stack-after, element-next}
use Rattle.walk_laws.proofs.Left.{left-none, none_left, first-left, without-first, last-left, without-last}
use Rattle.walk_laws.proofs.Records.{read_record, record-read, taken, after, takes, number-counted, number-other, stack-other, version-kept, others-kept, sizes-kept}

-- a legal walk that is live is open
pub legal-open : (s : Nodes) (w : WalkRecord) → LegalWalk s w → w.version.live ≡ 1 → Open s w
legal-open s w p e =
    ⊎_elim (λ c. let z : ◌≡◌ {A = ℕ} 0 1 = sym (ap (λ (r : WalkRecord). r.version.live) c) ∙ e in absurd (lt_irrefl zero (omega arith))) (λ o. o) p

-- what is left of an open walk
pub left_is : (s : Nodes) (w : WalkRecord) → w.version.live ≡ 1 → walk_of s w ≡ taking (left_between w.front w.back w.version.length (contents s w.version))
unfolding walk_of
left_is s w e = rw (eq-eqb w.version.live 1 e)

same_rest : (xs ys : List ℕ) → taking xs ≡ taking ys → xs ≡ ys
same_rest xs ys e = cc

content-at : (s : Nodes) (v : VersionRecord) (i : ℕ) → i < v.length → element s v.bits (height_of v) v.root i ≡ get_or (contents s v) i 0
content-at s v i l = sym (element-in s v.bits (height_of v) v.root i) ∙ contents-at s v i l

module _ (s : Nodes) (ws : WalkSlices) (n : ℕ) (fits : SlicesFit ws) (in-range : n < walk_count) (o : Open s (walk_record ws n)) where
  abbrev w : WalkRecord
  w = read_record ws n

  abbrev v : VersionRecord
  v = version_of_walk ws.numbers n

  open-read : Open s (read_record ws n)
  open-read = rw (record-read ws n) at o

  -- what the code asks for
  pub walkable : Walkable ws.numbers n
  unfolding version_of_walk
  walkable =
      record {
        walk = in-range;
        legal = record { bits = open-read.version.bits; length = open-read.version.length };
        taken = open-read.taken;
      }

  low : height_of (version_of_walk ws.numbers n) < walk_levels
  low = height-levels v.bits v.length (record { bits = open-read.version.bits; length = open-read.version.length })

  module _ (left : List ℕ) (is : walk_of s (walk_record ws n) ≡ taking left) where
    rest-is : left_between w.front w.back v.length (contents s v) ≡ left
    rest-is = same_rest _ _ (sym (left_is s w open-read.version.live) ∙ (ap (walk_of s) (sym (record-read ws n)) ∙ is))

    some_left : left ≢ [] → w.front + w.back < v.length
    some_left ne =
        ⊎_elim (λ e. absurd (ne (sym rest-is ∙ left-none w.front w.back v.length (contents s v) (contents-length s v) e))) (λ l. l) (eq-or-lt_of_le open-read.taken)

    -- ---- an ended walk

    ended_is : left ≡ [] → is_ended ws.numbers n ≡ true
    unfolding is_ended version_of_walk
    ended_is e = eq-eqb _ _ (none_left w.front w.back v.length (contents s v) (contents-length s v) open-read.taken (rest-is ∙ e))

    going-is : left ≢ [] → is_ended ws.numbers n ≡ false
    unfolding is_ended version_of_walk
    going-is ne = ne_eqb (w.front + w.back) v.length (λ e. lt_irrefl zero (omega (arith, some_left ne)))

    pub ended-stays : (b : Bool) → left ≡ [] → taken_by s.cells s.used b ws n ≡ stepped ws None
    unfolding taken_by
    ended-stays b e = rw (ended_is e)

    -- exactly if nothing is left
    pub answers-nothing : (b : Bool) → ((taken_by s.cells s.used b ws n).answer ≡ None) ↔ (left ≡ [])
    answers-nothing b = (
      λ e. by left refl e,
      λ e. ap (λ (t : Step). t.answer) (ended-stays b e),
    )
      where
        by : (xs : List ℕ) → left ≡ xs → (taken_by s.cells s.used b ws n).answer ≡ None → left ≡ []
        by [] e a = e
        by (x ∷ xs) e a =
            let some : left ≢ [] = λ f. let z : ◌≡◌ {A = ℕ} 0 1 = cc in lt_irrefl zero (omega arith) in
            let t : (taken_by s.cells s.used b ws n).answer ≡ Some (taken s.cells s.used b ws n fits in-range low).element =
            ap (λ (p : Step). p.answer) (takes s.cells s.used b ws n fits in-range low (going-is some)) in
            let z : ◌≡◌ {A = ℕ} 0 1 = cc in
            absurd (lt_irrefl zero (omega arith))

    -- ---- one element taken

    module _ (some : left ≢ []) where
      -- the place of a stack is in the lists
      room : (b : Bool) → stack_at n b + walk_levels ≤ places
      room true = omega arith
      room false = omega arith

      module _ (b : Bool) where
        abbrev then : WalkSlices
        then = after s.cells s.used b ws n fits in-range low

        taken_is : taken_by s.cells s.used b ws n ≡ stepped then (Some (taken s.cells s.used b ws n fits in-range low).element)
        taken_is = takes s.cells s.used b ws n fits in-range low (going-is some)

        -- the promise, once the record and the element are known
        promised : (item : ℕ) (rest' : List ℕ) (w' : WalkRecord) → (taken s.cells s.used b ws n fits in-range low).element ≡ item → read_record then n ≡ w' → Open s w'
            → walk_of s w' ≡ taking rest' → Took s ws n item rest' w' (taken_by s.cells s.used b ws n)
        promised item rest' w' e r p q =
            let read : walk_record then n ≡ w' = record-read then n ∙ r in
            rw taken_is
            (record {
              answer = ap Some e;
              record_is = read;
              legal = rw read p;
              walk = rw read q;
              others = others-kept s.cells s.used b ws n fits in-range low;
              sizes = sizes-kept s.cells s.used b ws n fits in-range low;
            })

      front-open : Open s (front_taken s w)
      unfolding forward_stack backward_stack
      front-open = record { version = open-read.version; taken = omega (arith, some_left some); forward = refl; backward = open-read.backward }

      back-open : Open s (back_taken s w)
      unfolding forward_stack backward_stack
      back-open = record { version = open-read.version; taken = omega (arith, some_left some); forward = open-read.forward; backward = refl }

      front_read : read_record (then false) n ≡ front_taken s w
      unfolding forward_stack taken_of
      front_read =
          rw (
            version-kept s.cells s.used false ws n fits in-range low,
            number-counted s.cells s.used false ws n fits in-range low,
            number-other s.cells s.used false ws n fits in-range low n 5 (λ e. lt_irrefl zero (omega arith)),
            stack-other s.cells s.used false ws n fits in-range low (2 * n + 1) (λ e. lt_irrefl zero (omega arith)),
            stack-after s v open-read.version false w.front (omega (arith, some_left some)) (levels_of ws) (stack_at n false) fits.levels (room false) open-read.forward,
          )

      back_read : read_record (then true) n ≡ back_taken s w
      unfolding backward_stack taken_of
      back_read =
          rw (
            version-kept s.cells s.used true ws n fits in-range low,
            number-counted s.cells s.used true ws n fits in-range low,
            number-other s.cells s.used true ws n fits in-range low n 4 (λ e. lt_irrefl zero (omega arith)),
            stack-other s.cells s.used true ws n fits in-range low (2 * n + 0) (λ e. lt_irrefl zero (omega arith)),
            stack-after s v open-read.version true w.back (omega (arith, some_left some)) (levels_of ws) (stack_at n true) fits.levels (room true) open-read.backward,
          )

      front-element : (taken s.cells s.used false ws n fits in-range low).element ≡ first_item left
      unfolding taken_of forward_stack
      front-element =
          element-next s v open-read.version false w.front (omega (arith, some_left some)) (levels_of ws) (stack_at n false) fits.levels (room false) open-read.forward
          ∙ (content-at s v w.front (omega (arith, some_left some))
          ∙ (sym (first-left w.front w.back v.length (contents s v) (contents-length s v) (some_left some)) ∙ ap first_item rest-is))

      back-element : (taken s.cells s.used true ws n fits in-range low).element ≡ last_item left
      unfolding taken_of backward_stack
      back-element =
          element-next s v open-read.version true w.back (omega (arith, some_left some)) (levels_of ws) (stack_at n true) fits.levels (room true) open-read.backward
          ∙ (content-at s v (v.length - 1 - w.back) (omega (arith, some_left some))
          ∙ (sym (last-left w.front w.back v.length (contents s v) (contents-length s v) (some_left some)) ∙ ap last_item rest-is))

      pub next-takes : Took s ws n (first_item left) (without_first left) (front_taken s (walk_record ws n)) (taken_by s.cells s.used false ws n)
      next-takes =
          rw (record-read ws n)
          (promised false (first_item left) (without_first left) (front_taken s w) front-element front_read front-open
          (left_is s (front_taken s w) open-read.version.live
          ∙ ap taking (sym (without-first w.front w.back v.length (contents s v) (contents-length s v) (some_left some)) ∙ ap without_first rest-is)))

      pub next-back-takes : Took s ws n (last_item left) (without_last left) (back_taken s (walk_record ws n)) (taken_by s.cells s.used true ws n)
      next-back-takes =
          rw (record-read ws n)
          (promised true (last_item left) (without_last left) (back_taken s w) back-element back_read back-open
          (left_is s (back_taken s w) open-read.version.live
          ∙ ap taking (sym (without-last w.front w.back v.length (contents s v) (contents-length s v) (some_left some)) ∙ ap without_last rest-is)))
