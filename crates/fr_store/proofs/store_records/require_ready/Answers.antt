use Rattle.std.proofs.Common.{rules}
use Rattle.sqlite.specs.Held.{state}
use Rattle.fr_store.proofs.StoredLaws.{stays_stored}
use Rattle.fr_store.proofs.CrashLemmas.{reads_looked}
use Rattle.fr_store.proofs.store_records.require_ready.Goals as goal

pub returns-then-is_ready : goal.returns-then-is_ready
returns-then-is_ready g c = record {
  reads = reads_looked (λ s. state g.S.Store s.conn) (λ s. s.config) _ _ c.is_ready.ensures.looks.survives c.is_ready.ensures.config c.is_ready.ensures.looks.stays;
  config = c.is_ready.ensures.config;
  is_open = search rules;
  stands = search rules;
  refused = search rules;
}

pub returns-else-is_ready : goal.returns-else-is_ready
returns-else-is_ready g c = record {
  reads = reads_looked (λ s. state g.S.Store s.conn) (λ s. s.config) _ _ c.is_ready.ensures.looks.survives c.is_ready.ensures.config c.is_ready.ensures.looks.stays;
  config = c.is_ready.ensures.config;
  is_open = search rules;
  stands = λ clean cluster b stored.
      stays_stored (state g.S.Store c.args.store.now.conn) (state g.S.Store c.is_ready.new.self.conn) c.args.store.now.config c.is_ready.new.self.config c.is_ready.ensures.config clean cluster b stored (c.is_ready.ensures.looks.stays clean);
  refused = search rules;
}
