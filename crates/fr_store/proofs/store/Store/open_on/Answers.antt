use Rattle.sqlite.specs.Held.{state}
use Rattle.fr_store.proofs.AgainLemmas.{found_again, only_unavailable}
use Rattle.fr_store.proofs.store.Store.open_on.Goals as goal

pub returns-in-Ok-clause-opened : goal.returns-in-Ok-clause-opened
returns-in-Ok-clause-opened g c =
    let read = c.in-Ok.ensures in
    record {
      up = λ clean. let up = read.does.is_open clean in ((read.same clean up).0, up);
      opened = λ clean. let same = read.same clean (read.does.is_open clean) in (same.1, same.2);
      serves = λ clean. record { up = read.does.is_open clean; settled = λ db may. g.met.S.Store.settled c.read_config.new.conn.store db (read.does.is_open clean) may };
      ours = read.does.ours;
      stands = read.does.stands;
      variants = read.does.variants;
      again = λ clean. found_again (state g.S.Store c.args.conn) (state g.S.Store c.read_config.new.conn) c.in-Ok.config (read.same clean (read.does.is_open clean)).1 read.does.formed (read.does.stands clean);
      outside = read.autocommit;
      survives = read.survives;
    }

pub returns-in-Err-clause-refused : goal.returns-in-Err-clause-refused
returns-in-Err-clause-refused g c =
    let read = c.in-Err.ensures in
    record {
      told = read.does.told;
      not_made = read.does.not_made;
      known = λ clean k is. only_unavailable k (state g.S.Store c.args.conn).now c.in-Err.fault is (read.does.told clean);
      unharmed = read.same;
      outside = λ _. read.autocommit;
      survives = read.survives;
    }
