-- The code's verdict and turn are the model's.
use mathlib.Core.Path.{◌≡◌, ap, ◌∙◌}
use mathlib.Core.Logic.{◌≢◌}
use mathlib.Core.Bool.{Bool}
use Prim.Native.Nat.{ℕ}
use lib.Dec.{eqb}
use borrow.Author.Tests.{eq-eqb, ne_eqb}
use Rattle.meaning.specs.Limits.{done_number}
use Rattle.meaning.specs.Lent.{VersionRecord, WalkSlices}
use Rattle.meaning.specs.Frames.{Frame}
use Rattle.meaning.specs.Operations.{op_of, giver, taker}
use Rattle.meaning.specs.Checks.{entry_checks, first_of}
use Rattle.meaning.specs.Serve.{refused}
use Rattle.records.specs.Records.{record_of}
use Rattle.records.specs.declared.Version.{Version}
use Rattle.store.specs.Store.{Store}
use Rattle.refusals.specs.Uses.{standing}
use Rattle.served.specs.Served.{refused_with}
use Rattle.served.specs.Acted.{acted_of}
use Rattle.served.specs.declared.Served.{Served}
use Rattle.calls.specs.Walks.{WalkActed}
use Rattle.calls.specs.Calls.{with_walks, act}
use Rattle.turns.specs.Turns.{is_open_at, standing_in, entry_number, turn}

module _ (ws : WalkSlices) (f : Frame) (v w : VersionRecord) where
  pub entry-is : (g t : ℕ) (a b : Bool) (n : ℕ) → g ≡ giver f → t ≡ taker f → a ≡ is_open_at ws.numbers g f.slot → b ≡ is_open_at ws.numbers t f.destination
      → n ≡ first_of (entry_checks (op_of f) f (standing (eqb v.live 1) (eqb w.live 1) a b)) → n ≡ entry_number ws f v w
  unfolding standing_in
  entry-is g t a b n eg et ea eb h =
      let walked : a ≡ is_open_at ws.numbers (giver f) f.slot = ea ∙ ap (λ (p : ℕ). is_open_at ws.numbers p f.slot) eg in
      let opened : b ≡ is_open_at ws.numbers (taker f) f.destination = eb ∙ ap (λ (p : ℕ). is_open_at ws.numbers p f.destination) et in
      h
      ∙ (ap (λ (x : Bool). first_of (entry_checks (op_of f) f (standing (eqb v.live 1) (eqb w.live 1) x b))) walked
      ∙ ap (λ (x : Bool). first_of (entry_checks (op_of f) f (standing (eqb v.live 1) (eqb w.live 1) (is_open_at ws.numbers (giver f) f.slot) x))) opened)

  module _ (s : Store) (n : ℕ) (told : n ≡ entry_number ws f v w) where
    pub turn-refuses : (old : Version) (r : Served) → n ≢ done_number → r ≡ refused_with n s.free old → with_walks (acted_of s r) ws ≡ turn s ws f v w (record_of old)
    unfolding turn refused
    turn-refuses old r h t = rw (← told, ne_eqb n done_number h, t)

    pub turn-acts : (old : VersionRecord) (a : WalkActed) → n ≡ done_number → a ≡ act s ws f v w old → a ≡ turn s ws f v w old
    unfolding turn
    turn-acts old a z p = rw (← told, eq-eqb n done_number z) p
