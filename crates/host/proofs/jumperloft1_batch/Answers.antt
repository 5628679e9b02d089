use mathlib.Core.Path.{refl}
use Rattle.host.proofs.Batching.{batch-settled}
use Rattle.host.proofs.jumperloft1_batch.Goals as goal

pub returns : goal.returns
returns c = batch-settled c.args.versions.now c.table_of-table.result c.store_table.new.versions _ _ c.args.requests.now c.args.room.now c.batch_table-ran.new.room c.batch_table-ran.result c.table_of-table.ensures refl refl c.batch_table-ran.ensures c.store_table.ensures
