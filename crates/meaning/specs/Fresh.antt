-- "Forming a fresh state makes all slots empty, all walks closed, all nodes free."
use Rattle.std.specs.Prelude.{List, [], ◌∷◌, ℕ, zero, suc, pos, replicate}
use Rattle.meaning.specs.Limits.{free_kind, version_count, all_numbers, places}
use Rattle.meaning.specs.Lent.{Lent, empty_record}

-- n - 1 down to 0: the last place is the next to be taken, so node 0 goes first
unfoldable pub down_from : (n : ℕ) → List ℕ
down_from zero = []
down_from (suc n) = n ∷ down_from n

-- of N nodes, over cells that stay as they were lent
unfoldable pub fresh_state : (N : ℕ) → (cells : List ℕ) → Lent
fresh_state N cells =
    record {
      nodes = record { kinds = replicate N free_kind; used = replicate N 0; cells = cells };
      counts = replicate N 0;
      order = down_from N;
      versions = replicate version_count empty_record;
      walks =
          record {
            numbers = replicate all_numbers 0;
            nodes = replicate places 0;
            indices = replicate places (pos 0);
          };
    }
