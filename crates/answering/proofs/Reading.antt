-- A turn of an operation that changes nothing.
use mathlib.Core.Path.{◌≡◌, refl, sym, ap, ◌∙◌}
use mathlib.Core.Logic.{◌≢◌}
use mathlib.Core.Bool.{Bool, true, false, cond}
use Prim.Native.Nat.{ℕ, ◌-◌, ◌≤◌, ◌<◌}
use native.Mathlib.Omega.{arith}
use lib.Dec.{leb, eqb}
use borrow.Author.Tests.{leb-true, leb-false, eqb-true, eqb-false, lt-ltb, le-ltb}
use Rattle.meaning.specs.Lent.{Nodes, VersionRecord}
use Rattle.meaning.specs.Trees.{height_of, element, contents}
use Rattle.meaning.specs.Frames.{Frame}
use Rattle.meaning.specs.Operations.{len, get, free_nodes, first, last, compare, anyone, host_alone, uses}
use Rattle.meaning.specs.Costs.{plain, priced, cost}
use Rattle.meaning.specs.Supply.{is_short}
use Rattle.meaning.specs.Checks.{no_fault, faults, any_field, nothing_there, is_full, ◌if◌, find_checks, nodes_check, first_of}
use Rattle.meaning.specs.Effects.{Sign, before, same, after, order}
use Rattle.meaning.specs.Serve.{refused}
use Rattle.meaning.proofs.Rows.{rows_agree}
use Rattle.lookup.specs.Lookup.{element_in, got}
use Rattle.lookup.proofs.Found.{element-in}
use Rattle.compare.specs.Compare.{sign_of, ordering_of, contents_in, ordering}
use Rattle.frames.specs.Run.{Run, source_in, target_in, seen_in, supply_in}
use Rattle.frames.specs.Serve.{answers, item_at, done, respond}
use Rattle.frames.specs.Serve as model
use Rattle.served.specs.Served.{answered_with, got_with, ordered_with}
use Rattle.served.specs.Acted.{Acted}
use Rattle.served.specs.declared.Served.{Served}
use Rattle.calls.specs.Walks.{acted}
use Rattle.calls.specs.Calls.{code_record, with_walks}
use Rattle.serving.specs.Passed.{later_checks}
use Rattle.answering.specs.Turned.{old_in, turned}
use Rattle.answering.proofs.Calling.{no-charge, refuses, only-answers}

-- kinds and used numbers don't matter to contents
contents-in : (s : Nodes) (v : VersionRecord) → contents_in s.cells (code_record v) ≡ contents s v
unfolding contents
contents-in s v = rows_agree v.length (element s v.bits (height_of v) v.root) (element_in s.cells v.bits (height_of v) v.root) (λ i l. element-in s v.bits (height_of v) v.root i)

sign-again : (x : Sign) → sign_of (ordering_of x) ≡ x
sign-again before = refl
sign-again same = refl
sign-again after = refl

module _ (r : Run) (f : Frame) where
  -- nothing but the answer
  abbrev told : Served → Acted
  told x = acted r.store (old_in r f) (record { number = x.answer.number; fresh = x.answer.fresh; value = x.answer.value })

  item-turns : (v : VersionRecord) (i : ℕ) (d : model.Served) (b : Bool) → (b ≡ true → v.length ≤ i) → (b ≡ false → i < v.length) → d ≡ answers r (item_at r v i)
      → respond (cond b 8 0) r d ≡ turned r f (with_walks (told (got_with (got r.store.nodes.cells (code_record v) i) r.store.free (code_record (old_in r f)))) r.walks)
  unfolding got refused item_at
  item-turns v i d true out within h = rw (le-ltb i v.length (out refl)) (refuses r f d 7)
  item-turns v i d false out within h =
      rw (lt-ltb i v.length (within refl))
      (only-answers r f d (element_in r.store.nodes.cells v.bits (height_of v) v.root i)
      (h ∙ ap (answers r) (sym (element-in r.store.nodes v.bits (height_of v) v.root i))))

  pub get-turns : respond (first_of (later_checks get (supply_in r) f (seen_in r f))) r (done get r f)
      ≡ turned r f (with_walks (told (got_with (got r.store.nodes.cells (code_record (source_in r f)) f.index) r.store.free (code_record (old_in r f)))) r.walks)
  unfolding later_checks find_checks nodes_check ◌if◌ first_of uses anyone any_field faults no_fault nothing_there is_full cost priced plain is_short seen_in done
  get-turns =
      let n : ℕ = (source_in r f).length in
      rw (no-charge r.store.free) (item-turns (source_in r f) f.index _ (leb n f.index) (leb-true n f.index) (leb-false n f.index) refl)

  pub first-turns : respond (first_of (later_checks first (supply_in r) f (seen_in r f))) r (done first r f)
      ≡ turned r f (with_walks (told (got_with (got r.store.nodes.cells (code_record (source_in r f)) 0) r.store.free (code_record (old_in r f)))) r.walks)
  unfolding later_checks find_checks nodes_check ◌if◌ first_of uses anyone any_field faults no_fault nothing_there is_full cost priced plain is_short seen_in done
  first-turns =
      let n : ℕ = (source_in r f).length in
      rw (no-charge r.store.free)
      (item-turns (source_in r f) 0 _ (eqb n 0) (λ e. omega (arith, eqb-true n 0 e)) (λ e. let some : n ≢ 0 = eqb-false n 0 e in omega arith) refl)

  pub last-turns : respond (first_of (later_checks last (supply_in r) f (seen_in r f))) r (done last r f)
      ≡ turned r f (with_walks (told (got_with (got r.store.nodes.cells (code_record (source_in r f)) ((source_in r f).length - 1)) r.store.free (code_record (old_in r f)))) r.walks)
  unfolding later_checks find_checks nodes_check ◌if◌ first_of uses anyone any_field faults no_fault nothing_there is_full cost priced plain is_short seen_in done
  last-turns =
      let n : ℕ = (source_in r f).length in
      rw (no-charge r.store.free)
      (item-turns (source_in r f) (n - 1) _ (eqb n 0) (λ e. omega (arith, eqb-true n 0 e)) (λ e. let some : n ≢ 0 = eqb-false n 0 e in omega arith) refl)

  pub len-turns : respond (first_of (later_checks len (supply_in r) f (seen_in r f))) r (done len r f)
      ≡ turned r f (with_walks (told (answered_with (source_in r f).length r.store.free (code_record (old_in r f)))) r.walks)
  unfolding later_checks find_checks nodes_check ◌if◌ first_of uses anyone any_field faults no_fault nothing_there is_full cost priced plain is_short seen_in done
  len-turns = rw (no-charge r.store.free) (only-answers r f _ (source_in r f).length refl)

  pub free-nodes-turns : respond (first_of (later_checks free_nodes (supply_in r) f (seen_in r f))) r (done free_nodes r f)
      ≡ turned r f (with_walks (told (answered_with r.store.free r.store.free (code_record (old_in r f)))) r.walks)
  unfolding later_checks find_checks nodes_check ◌if◌ first_of uses host_alone any_field faults no_fault nothing_there is_full cost priced plain is_short seen_in done
  free-nodes-turns = rw (no-charge r.store.free) (only-answers r f _ r.store.free refl)

  pub compare-turns : respond (first_of (later_checks compare (supply_in r) f (seen_in r f))) r (done compare r f)
      ≡ turned r f
      (with_walks (told (ordered_with (ordering r.store.nodes.cells (code_record (source_in r f)) (code_record (target_in r f))) r.store.free (code_record (old_in r f)))) r.walks)
  unfolding later_checks find_checks nodes_check ◌if◌ first_of uses anyone any_field faults no_fault nothing_there is_full cost priced plain is_short seen_in done ordering
  compare-turns =
      rw (
        no-charge r.store.free,
        sign-again (order (contents_in r.store.nodes.cells (code_record (source_in r f))) (contents_in r.store.nodes.cells (code_record (target_in r f)))),
        contents-in r.store.nodes (source_in r f),
        contents-in r.store.nodes (target_in r f),
      )
      (only-answers r f _ _ refl)
