-- The program's rooms suffice, and the state that it forms runs.
use mathlib.Core.Path.{◌≡◌, refl, sym, ap, subst, ◌∙◌}
use mathlib.Core.List.{List}
use Prim.Native.Nat.{ℕ, zero, ◌*◌, ◌≤◌}
use native.Mathlib.Omega.{arith}
use lib.IntN.{pos}
use lib.ListN.{length, take, replicate, length-take, length-map, length-replicate}
use Rattle.meaning.specs.Limits.{node_cells, program_nodes}
use Rattle.meaning.specs.Lent.{Lent, WalkSlices, size}
use Rattle.meaning.specs.Fresh.{fresh_state}
use Rattle.meaning.specs.WellFormed.{SizesFit}
use Rattle.records.specs.Records.{record_of}
use Rattle.walk.specs.Walk.{all_closed}
use Rattle.records.specs.declared.Version.{Version}
use Rattle.audit_reads.specs.Slices.{lent_from}
use Rattle.form.specs.Forms.{Forms}
use Rattle.frames.specs.Run.{Run}
use Rattle.runs.specs.Runs.{run_of}
use Rattle.serving.specs.States.{Runs}
use Rattle.conversation.specs.Conversing.{start_on}
use Rattle.conversation.proofs.Plain.{start-free, start-runs}

-- a part of a piece is no longer than a piece, and has room for its answers
pub part-short : (n most : ℕ) (piece : List ℕ) → length piece ≡ most → length (take n piece) ≤ most
part-short n most piece e = rw length-take (omega arith)

pub part-fits : (n most : ℕ) (piece out : List ℕ) → length piece ≡ most → length out ≡ 13 * most → 13 * length (take n piece) ≤ length out
part-fits n most piece out e h = let short = part-short n most piece e in omega arith

-- a state with a number of free nodes
abbrev with : Lent → (free : ℕ) → Run
with s free = run_of (record { nodes = s.nodes; counts = s.counts; order = s.order; free = free }) s.versions s.walks

pub formed-runs : (s after : Lent) (n : ℕ) → SizesFit s → size s ≡ program_nodes → Forms s after n → Runs (with after program_nodes)
formed-runs s after n fit e f =
    let fresh : after ≡ fresh_state program_nodes s.nodes.cells = (f.fits fit).1 ∙ ap (λ (m : ℕ). fresh_state m s.nodes.cells) e in
    let long : length s.nodes.cells ≡ node_cells * program_nodes = fit.cells ∙ ap (λ (m : ℕ). node_cells * m) e in
    let same : with after program_nodes ≡ start_on s.nodes.cells =
    ap (λ (a : Lent). with a program_nodes) fresh ∙ ap (with (fresh_state program_nodes s.nodes.cells)) (sym (start-free s.nodes.cells)) in
    subst (λ (r : Run). Runs r) (sym same) (start-runs s.nodes.cells long)

-- arrays of zeros have the sizes of 256 nodes
zero-words : (n : ℕ) → length (replicate n zero) ≡ n
zero-words n = length-replicate n zero

zeros-fit : (v : Version)
    → SizesFit (lent_from (replicate 256 0) (replicate 256 0) (replicate 256 0) (replicate 8192 0) (replicate 256 0) (replicate 64 v) (replicate 96 0) (replicate 480 0) (replicate 480 (pos 0)))
zeros-fit v = record {
  least = rw zero-words (omega arith);
  most = rw zero-words (omega arith);
  used = refl;
  cells = zero-words 8192 ∙ ap (λ (n : ℕ). node_cells * n) (sym (zero-words 256));
  counts = refl;
  order = refl;
  versions = length-map (replicate 64 v) record_of ∙ length-replicate 64 v;
  walk_numbers = zero-words 96;
  walk_nodes = zero-words 480;
  walk_indices = length-replicate 480 (pos 0);
}

pub closed-fit : (v : Version) (walks : WalkSlices) → walks ≡ all_closed
    → SizesFit (lent_from (replicate 256 0) (replicate 256 0) (replicate 256 0) (replicate 8192 0) (replicate 256 0) (replicate 64 v) walks.numbers walks.nodes walks.indices)
closed-fit v walks e = rw e (zeros-fit v)

pub zeros-size : length (replicate 256 zero) ≡ program_nodes
zeros-size = zero-words 256
