-- What the code makes of each operation is the model's.
use Rattle.std.specs.declared.cmp.Ordering.{Ordering}
use Rattle.std.specs.Prelude.{Option, Some, None}
use mathlib.Core.Path.{◌≡◌, refl, sym, ap, ◌∙◌}
use mathlib.Core.Logic.{◌≢◌}
use mathlib.Core.Bool.{Bool, true, false, cond, ◌||◌, false≢true}
use mathlib.Core.List.{List}
use Prim.Native.Nat.{ℕ, ◌-◌}
use lib.Dec.{eqb}
use borrow.Author.Tests.{eq-eqb, ne_eqb, eqb-true}
use Rattle.meaning.specs.Limits.{new_code, clone_code, release_code, len_code, get_code, set_code, push_back_code, drop_last_code, open_walk_code, next_back_code, close_walk_code, hand_over_code, first_code, last_code, compare_code}
use Rattle.meaning.specs.Lent.{VersionRecord, WalkSlices}
use Rattle.meaning.specs.Frames.{Frame}
use Rattle.meaning.specs.Serve.{refused}
use Rattle.meaning.specs.Operations.{operations, anyone, host_alone, uses}
use Rattle.records.specs.Records.{record_of}
use Rattle.records.specs.declared.Version.{Version}
use Rattle.lookup.specs.Lookup.{got}
use Rattle.compare.specs.Compare.{ordering}
use Rattle.store.specs.Store.{Store, raise, raises}
use Rattle.sweep.specs.Sweep as sweep
use Rattle.sweep.specs.Ready.{Releasable}
use Rattle.walk.specs.Walk.{Step, stepped, version_of_walk, opened, closed, taken_by}
use Rattle.served.specs.Served.{answered_with, got_with, ordered_with}
use Rattle.served.specs.Acted.{Acted, acted_of}
use Rattle.served.specs.declared.Served.{Served}
use Rattle.edits.specs.Edits.{released_act, edit_act}
use Rattle.calls.specs.Reads.{is_source, sourced, read_with}
use Rattle.calls.specs.Walks.{used_place, opened_place, Opens, Closes, Steps, WalkActed, with_walks, answer_of, walk_act}
use Rattle.calls.specs.Calls.{is_edit, is_walk, read_act, store_act, act}

-- ---- operations that read a version

pub sourced-at : (n k : ℕ) → n ≡ k → sourced k ≡ true → sourced n ≡ true
sourced-at n k e p = ap sourced e ∙ p

module _ (n : ℕ) where
  pub get-sourced : n ≡ get_code → sourced n ≡ true
  unfolding sourced is_source operations uses anyone
  get-sourced e = sourced-at n get_code e refl

  pub first-sourced : n ≡ first_code → sourced n ≡ true
  unfolding sourced is_source operations uses anyone
  first-sourced e = sourced-at n first_code e refl

  pub last-sourced : n ≡ last_code → sourced n ≡ true
  unfolding sourced is_source operations uses anyone
  last-sourced e = sourced-at n last_code e refl

  pub compare-sourced : n ≡ compare_code → sourced n ≡ true
  unfolding sourced is_source operations uses anyone
  compare-sourced e = sourced-at n compare_code e refl

  pub release-sourced : n ≡ release_code → sourced n ≡ true
  unfolding sourced is_source operations uses anyone
  release-sourced e = sourced-at n release_code e refl

  pub edit-sourced : is_edit n ≡ true → n ≢ new_code → sourced n ≡ true
  unfolding sourced is_source operations uses anyone host_alone
  edit-sourced e d = pick (eqb n new_code) (eqb n clone_code) (eqb n set_code) (eqb n push_back_code) (eqb n drop_last_code) (eqb n hand_over_code) refl refl refl refl refl refl e
    where
      pick : (a b c d e f : Bool) → eqb n new_code ≡ a → eqb n clone_code ≡ b → eqb n set_code ≡ c → eqb n push_back_code ≡ d → eqb n drop_last_code ≡ e → eqb n hand_over_code ≡ f
          → a || b || c || d || e || f ≡ true → sourced n ≡ true
      pick true b c d' x f p1 p2 p3 p4 p5 p6 h = absurd (d (eqb-true n new_code p1))
      pick false true c d' x f p1 p2 p3 p4 p5 p6 h = sourced-at n clone_code (eqb-true n clone_code p2) refl
      pick false false true d' x f p1 p2 p3 p4 p5 p6 h = sourced-at n set_code (eqb-true n set_code p3) refl
      pick false false false true x f p1 p2 p3 p4 p5 p6 h = sourced-at n push_back_code (eqb-true n push_back_code p4) refl
      pick false false false false true f p1 p2 p3 p4 p5 p6 h = sourced-at n drop_last_code (eqb-true n drop_last_code p5) refl
      pick false false false false false true p1 p2 p3 p4 p5 p6 h = sourced-at n hand_over_code (eqb-true n hand_over_code p6) refl
      pick false false false false false false p1 p2 p3 p4 p5 p6 h = absurd (false≢true h)

-- ---- reads

module _ (cells : List ℕ) (free : ℕ) (f : Frame) (v w old : Version) (r : Served) where
  pub get-reads : f.operation ≡ get_code → (g : Option ℕ) → g ≡ got cells v f.index → r ≡ got_with g free old → r ≡ read_with cells free f v w old
  unfolding read_with
  get-reads t g p q = rw (eq-eqb f.operation get_code t) (q ∙ ap (λ (x : Option ℕ). got_with x free old) p)

  module _ (not_get : f.operation ≢ get_code) where
    pub len-reads : f.operation ≡ len_code → (n : ℕ) → n ≡ v.length → r ≡ answered_with n free old → r ≡ read_with cells free f v w old
    unfolding read_with
    len-reads t n p q = rw (ne_eqb f.operation get_code not_get, eq-eqb f.operation len_code t) (q ∙ ap (λ (x : ℕ). answered_with x free old) p)

    module _ (not_len : f.operation ≢ len_code) where
      pub first_reads : f.operation ≡ first_code → (g : Option ℕ) → g ≡ got cells v 0 → r ≡ got_with g free old → r ≡ read_with cells free f v w old
      unfolding read_with
      first_reads t g p q = rw (ne_eqb f.operation get_code not_get, ne_eqb f.operation len_code not_len, eq-eqb f.operation first_code t) (q ∙ ap (λ (x : Option ℕ). got_with x free old) p)

      module _ (not_first : f.operation ≢ first_code) where
        pub last-reads : f.operation ≡ last_code → (g : Option ℕ) → g ≡ got cells v (v.length - 1) → r ≡ got_with g free old → r ≡ read_with cells free f v w old
        unfolding read_with
        last-reads t g p q =
            rw (ne_eqb f.operation get_code not_get, ne_eqb f.operation len_code not_len, ne_eqb f.operation first_code not_first, eq-eqb f.operation last_code t)
            (q ∙ ap (λ (x : Option ℕ). got_with x free old) p)

        module _ (not_last : f.operation ≢ last_code) where
          pub compare-reads : f.operation ≡ compare_code → (o : Ordering) → o ≡ ordering cells v w → r ≡ ordered_with o free old → r ≡ read_with cells free f v w old
          unfolding read_with
          compare-reads t o p q =
              rw (ne_eqb f.operation get_code not_get, ne_eqb f.operation len_code not_len, ne_eqb f.operation first_code not_first, ne_eqb f.operation last_code not_last, eq-eqb f.operation compare_code t)
              (q ∙ ap (λ (x : Ordering). ordered_with x free old) p)

          pub free-reads : f.operation ≢ compare_code → (n : ℕ) → n ≡ free → r ≡ answered_with n free old → r ≡ read_with cells free f v w old
          unfolding read_with
          free-reads t n p q =
              rw (ne_eqb f.operation get_code not_get, ne_eqb f.operation len_code not_len, ne_eqb f.operation first_code not_first, ne_eqb f.operation last_code not_last, ne_eqb f.operation compare_code t)
              (q ∙ ap (λ (x : ℕ). answered_with x free old) p)

-- ---- walks

pub root-releases : (s : Store) (v : Version) (w : VersionRecord) → record_of v ≡ w → Releasable s w.root → Releasable s v.root
root-releases s v w e p = rw (ap (λ (x : VersionRecord). x.root) e) p

pub opens : (s : Store) (ws : WalkSlices) (n : ℕ) (v : VersionRecord) (old : Version) (counts : List ℕ) (walks_after : WalkSlices) (r : Served) → counts ≡ raise s.counts v.root
    → walks_after ≡ opened ws n v → r ≡ answered_with 0 s.free old → Opens s ws n v old (record { nodes = s.nodes; counts = counts; order = s.order; free = s.free }) walks_after r
unfolding raises
opens s ws n v old counts walks_after r p q h = record { linked = rw p; recorded = q; answer = h }

pub closes : (s : Store) (ws : WalkSlices) (n : ℕ) (old v : Version) (after : Store) (walks_after : WalkSlices) (r : Served) → record_of v ≡ version_of_walk ws.numbers n
    → after ≡ sweep.release s v.root → walks_after ≡ closed ws n → r ≡ answered_with 0 after.free old → Closes s ws n old after walks_after r
closes s ws n old v after walks_after r p q h t = record {
  store = q ∙ ap (λ (x : VersionRecord). sweep.release s x.root) p;
  walks = h;
  answer = t ∙ ap (λ (k : ℕ). answered_with 0 k old) (sym (ap (λ (x : Served). x.free) t));
}

pub steps : (t : Step) (free : ℕ) (old : Version) (walks_after : WalkSlices) (g : Option ℕ) (r : Served) → stepped walks_after g ≡ t → r ≡ got_with g free old → Steps t free old walks_after r
steps t free old walks_after g r p q = record { walks = ap (λ (x : Step). x.slices) p; answer = q ∙ ap (λ (x : Step). got_with x.answer free old) p }

module _ (s : Store) (ws : WalkSlices) (f : Frame) (v : VersionRecord) (old : Version) (r : Served) where
  pub open-acts : (after : Store) (walks_after : WalkSlices) (n : ℕ) → n ≡ opened_place f → f.operation ≡ open_walk_code → Opens s ws n v old after walks_after r
      → with_walks (acted_of after r) walks_after ≡ walk_act s ws f v (record_of old)
  unfolding walk_act
  open-acts after walks_after n e t o = rw (eq-eqb f.operation open_walk_code t, o.answer, o.linked, o.recorded, e)

  pub close-acts : (after : Store) (walks_after : WalkSlices) (n : ℕ) → n ≡ used_place f → f.operation ≢ open_walk_code → f.operation ≡ close_walk_code → Closes s ws n old after walks_after r
      → with_walks (acted_of after r) walks_after ≡ walk_act s ws f v (record_of old)
  unfolding walk_act
  close-acts after walks_after n e m t o = rw (ne_eqb f.operation open_walk_code m, eq-eqb f.operation close_walk_code t, o.answer, o.store, o.walks, e)

  got-answers : (free : ℕ) (g : Option ℕ) → acted_of s (got_with g free old) ≡ record { store = s; version = record_of old; answer = answer_of g }
  unfolding answer_of refused
  got-answers free (Some x) = refl
  got-answers free None = refl

  pub step-acts : (walks_after : WalkSlices) (n : ℕ) → n ≡ used_place f → f.operation ≢ open_walk_code → f.operation ≢ close_walk_code
      → Steps (taken_by s.nodes.cells s.nodes.used (eqb f.operation next_back_code) ws n) s.free old walks_after r
      → with_walks (acted_of s r) walks_after ≡ walk_act s ws f v (record_of old)
  unfolding walk_act
  step-acts walks_after n e l m o =
      let g : Option ℕ = (taken_by s.nodes.cells s.nodes.used (eqb f.operation next_back_code) ws n).answer in
      rw (ne_eqb f.operation open_walk_code l, ne_eqb f.operation close_walk_code m, o.answer, o.walks, got-answers s.free g, e)

-- ---- what reads leave as it was

module _ (free : ℕ) (old : Version) where
  abbrev Leaves : Served → Type 0
  Leaves r = (r.free ≡ free) × (r.version ≡ old)

  pub got-leaves : (g : Option ℕ) → Leaves (got_with g free old)
  got-leaves (Some x) = (refl, refl)
  got-leaves None = (refl, refl)

  read-leaves : (cells : List ℕ) (f : Frame) (v w : Version) → Leaves (read_with cells free f v w old)
  unfolding read_with
  read-leaves cells f v w = by (eqb f.operation get_code) (eqb f.operation len_code) (eqb f.operation first_code) (eqb f.operation last_code) (eqb f.operation compare_code)
    where
      by : (a b c d e : Bool)
          → Leaves (cond a (got_with (got cells v f.index) free old) (cond b (answered_with v.length free old) (cond c (got_with (got cells v 0) free old)
          (cond d (got_with (got cells v (v.length - 1)) free old) (cond e (ordered_with (ordering cells v w) free old) (answered_with free free old))))))
      by true b c d e = got-leaves (got cells v f.index)
      by false true c d e = (refl, refl)
      by false false true d e = got-leaves (got cells v 0)
      by false false false true e = got-leaves (got cells v (v.length - 1))
      by false false false false true = (refl, refl)
      by false false false false false = (refl, refl)

-- ---- which operation

module _ (s : Store) (f : Frame) (v w : Version) (old : Version) where
  pub edit-stores : (a : Acted) → is_edit f.operation ≡ true → a ≡ edit_act s f (record_of v) (record_of old) → a ≡ store_act s f (record_of v) (record_of w) (record_of old)
  unfolding store_act
  edit-stores a t p = rw t p

  module _ (not_edit : is_edit f.operation ≡ false) where
    pub release-stores : (a : Acted) → f.operation ≡ release_code → a ≡ released_act s (record_of v) → a ≡ store_act s f (record_of v) (record_of w) (record_of old)
    unfolding store_act
    release-stores a t p = rw (not_edit, eq-eqb f.operation release_code t) p

    pub read-stores : (r : Served) → f.operation ≢ release_code → r ≡ read_with s.nodes.cells s.free f v w old
        → (r.free ≡ s.free) × (acted_of s r ≡ store_act s f (record_of v) (record_of w) (record_of old))
    unfolding store_act read_act
    read-stores r t p =
        let (q, o) = read-leaves s.free old s.nodes.cells f v w in
        (rw (p, q), rw (not_edit, ne_eqb f.operation release_code t, p, o))

module _ (s : Store) (ws : WalkSlices) (f : Frame) (v w old : VersionRecord) where
  pub act-walks : (a : WalkActed) → is_walk f.operation ≡ true → a ≡ walk_act s ws f v old → a ≡ act s ws f v w old
  unfolding act
  act-walks a t p = rw t p

  pub act-stores : (a : Acted) → is_walk f.operation ≡ false → a ≡ store_act s f v w old → with_walks a ws ≡ act s ws f v w old
  unfolding act
  act-stores a t p = rw (t, p)
