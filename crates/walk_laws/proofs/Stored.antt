-- The six numbers of a walk, stored together: its version is read again, nothing is taken, and no other walk's numbers change.
use mathlib.Core.Path.{◌≡◌, ◌∙◌}
use mathlib.Core.Logic.{◌≢◌}
use mathlib.Core.List.{List}
use Prim.Native.Nat.{ℕ, zero, ◌+◌, ◌*◌, ◌<◌}
use native.Mathlib.Nat.{lt_irrefl}
use native.Mathlib.Omega.{arith}
use lib.ListN.{length, set, length-set}
use lib.Seq.{get_or-set_same, get_or-set_other}
use Rattle.meaning.specs.Limits.{walk_count, walk_numbers, all_numbers}
use Rattle.meaning.specs.Lent.{VersionRecord}
use Rattle.walk.specs.Walk.{number_at, version_of_walk, stored}

module _ (ns : List ℕ) (n : ℕ) (v : VersionRecord) where
  abbrev after1 : List ℕ
  after1 = set ns (walk_numbers * n + 0) v.live

  abbrev after2 : List ℕ
  after2 = set after1 (walk_numbers * n + 1) v.root

  abbrev after3 : List ℕ
  after3 = set after2 (walk_numbers * n + 2) v.bits

  abbrev after4 : List ℕ
  after4 = set after3 (walk_numbers * n + 3) v.length

  abbrev after5 : List ℕ
  after5 = set after4 (walk_numbers * n + 4) 0

  far : (xs : List ℕ) (j m k x : ℕ) → m ≢ n → j < walk_numbers → k < walk_numbers → number_at (set xs (walk_numbers * n + j) x) m k ≡ number_at xs m k
  far xs j m k x ne l h = get_or-set_other xs (walk_numbers * n + j) (walk_numbers * m + k) x 0 (λ e. ne (omega arith))

  pub stored-far : (m k : ℕ) → m ≢ n → k < walk_numbers → number_at (stored ns n v) m k ≡ number_at ns m k
  unfolding stored
  stored-far m k ne l =
      far after5 5 m k 0 ne (omega arith) l
      ∙ (far after4 4 m k 0 ne (omega arith) l
      ∙ (far after3 3 m k v.length ne (omega arith) l
      ∙ (far after2 2 m k v.bits ne (omega arith) l ∙ (far after1 1 m k v.root ne (omega arith) l ∙ far ns 0 m k v.live ne (omega arith) l))))

  module _ (long : length ns ≡ all_numbers) (in-range : n < walk_count) where
    pub stored-length : length (stored ns n v) ≡ all_numbers
    unfolding stored
    stored-length = simp length-set long

    -- number k is what was stored last there
    same : (xs : List ℕ) (k x : ℕ) → length xs ≡ all_numbers → k < walk_numbers → number_at (set xs (walk_numbers * n + k) x) n k ≡ x
    same xs k x l h = get_or-set_same xs (walk_numbers * n + k) x 0 (omega arith)

    other : (xs : List ℕ) (j k x : ℕ) → k ≢ j → number_at (set xs (walk_numbers * n + j) x) n k ≡ number_at xs n k
    other xs j k x ne = get_or-set_other xs (walk_numbers * n + j) (walk_numbers * n + k) x 0 (λ e. ne (omega arith))

    past : (k : ℕ) → k < 4 → number_at (stored ns n v) n k ≡ number_at after4 n k
    unfolding stored
    past k l = other after5 5 k 0 (λ e. lt_irrefl zero (omega arith)) ∙ other after4 4 k 0 (λ e. lt_irrefl zero (omega arith))

    pub stored-version : version_of_walk (stored ns n v) n ≡ v
    unfolding version_of_walk
    stored-version =
        rw (
          past 0 (omega arith) ∙ (other after3 3 0 _ (λ e. lt_irrefl zero (omega arith)) ∙ (other after2 2 0 _ (λ e. lt_irrefl zero (omega arith)) ∙ (other after1 1 0 _ (λ e. lt_irrefl zero (omega arith)) ∙ same ns 0 v.live long (omega arith)))),
          past 1 (omega arith) ∙ (other after3 3 1 _ (λ e. lt_irrefl zero (omega arith)) ∙ (other after2 2 1 _ (λ e. lt_irrefl zero (omega arith)) ∙ same after1 1 v.root (simp length-set long) (omega arith))),
          past 2 (omega arith) ∙ (other after3 3 2 _ (λ e. lt_irrefl zero (omega arith)) ∙ same after2 2 v.bits (simp length-set long) (omega arith)),
          past 3 (omega arith) ∙ same after3 3 v.length (simp length-set long) (omega arith),
        )

    pub stored-front : number_at (stored ns n v) n 4 ≡ 0
    unfolding stored
    stored-front = other after5 5 4 0 (λ e. lt_irrefl zero (omega arith)) ∙ same after4 4 0 (simp length-set long) (omega arith)

    pub stored_back : number_at (stored ns n v) n 5 ≡ 0
    unfolding stored
    stored_back = same after5 5 0 (simp length-set long) (omega arith)
