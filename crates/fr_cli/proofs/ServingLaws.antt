-- Connections are served, and then one more; what is told of their ends; and what that is for the file of the register.
use Rattle.std.proofs.Common.{◌≡◌, ◌≤◌, length, inl, inr, ℕ, List, [], ◌∷◌, ◌++◌, Option, Result, Err, refl, sym, ap, ap₂, subst, arith}
use Rattle.std.specs.Prelude.{⊤}
use Rattle.sqlite.specs.declared.file.Leftover.{Leftover}
use Rattle.sqlite_disk.specs.declared.Disk.{Ghosts}
use Rattle.sqlite_wal.specs.Recovery.{Image}
use Rattle.fr_base.specs.Book.{Book}
use Rattle.fr_base.specs.Cluster.{Cluster}
use Rattle.fr_base.specs.declared.desk.Desk as Desk
use Rattle.fr_http.specs.Connection.{IsConnection}
use Rattle.fr_http.specs.declared.fault.LinkFault.{LinkFault}
use Rattle.fr_http.specs.declared.serve.Served.{Served}
use Rattle.fr_http.proofs.ExchangeLaws.{exchanges-sound}
use Rattle.fr_world.specs.Held.{Standing}
use Rattle.fr_cli.specs.Guarding.{fault_unwatched}
use Rattle.fr_cli.specs.Outlets.{IsCutShort, Outlet, outlet}
use Rattle.fr_cli.specs.Performing.{listening}
use Rattle.fr_cli.specs.Serving.{HasServed, IsServed, IsServedOver, ServesAll, ServesEach, ServesOne, ServesOver, StopsServing, TellsEach, TellsEnd, WasAnnounced}
use Rattle.fr_cli.specs.Visits.{Comings, SinkGhosts, Visit}
use Rattle.fr_cli.specs.declared.fault.Fault.{Fault}
use Rattle.fr_cli.specs.declared.fault.Fault.TheVariants.{CannotListen}
use Rattle.fr_cli.specs.declared.jobs.serve.Service.{Service}
use Rattle.fr_cli.specs.declared.files.watch.WatchFault.{WatchFault}
use Rattle.fr_cli.specs.declared.files.watch.WatchFault.TheVariants as watch
use Rattle.fr_cli.proofs.RegisterTaskLaws.{done_over}
use Rattle.fr_cli.proofs.SingleRequestLaws.{err_follows}
use Rattle.fr_cli.specs.Opened.{IsOver}
use Rattle.fr_cli.specs.RegisterTasks.{IsDoneOver, ServesConnections}

-- ---- one exchange

-- what happened on a connection
abbrev pub visit_on : (clean : Type 0) (old new : Standing) (input left held now : Option (List ℕ)) (done : Result Served LinkFault)
    → IsConnection clean old new input left held now done → Visit
visit_on clean old new input left held now done one = record { read = one.bytes; written = one.written; done = done }

-- What is said of a connection is an exchange with these bytes.
pub serves_connection : (clean : Type 0) (old new : Standing) (input left held now : Option (List ℕ)) (done : Result Served LinkFault)
    (one : IsConnection clean old new input left held now done) → ServesOne clean old new (visit_on clean old new input left held now done one)
serves_connection clean old new input left held now done one = λ is c b stands sound.
    let (asked, last, exchange, after) = one.exchanged is c b stands sound in
    (record { read = one.bytes; written = one.written; done = done; asked = asked }, last, refl, exchange, after)

-- The register's rows stayed afterwards.
pub serves_stay : (clean first : Type 0) (old mid new : Standing) (visit : Visit) → (clean → first) → (clean → (c : Cluster) (b : Book) → mid c b → new c b)
    → ServesOne first old mid visit → ServesOne clean old new visit
serves_stay clean first old mid new visit falls stays one = λ is c b stands sound.
    let (x, last, same, exchange, after) = one (falls is) c b stands sound in (x, last, same, exchange, stays is c last after)

-- ---- exchanges, one behind another

-- No connection was served.
serves_none : (clean : Type 0) (s : Standing) → ServesAll clean s s []
serves_none clean s = λ is c b stands sound. ([], b, refl, refl, stands)

-- One was served before others.
serves_first : (clean first : Type 0) (old mid new : Standing) (visit : Visit) (visits : List Visit) → (clean → first)
    → ServesOne first old mid visit → ServesAll clean mid new visits → ServesAll clean old new (visit ∷ visits)
serves_first clean first old mid new visit visits falls p q = λ is c b stands sound.
    let (x, book, same, one, there) = p (falls is) c b stands sound in
    let (xs, last, each, so, after) = q is c book there (exchanges-sound c b book (x ∷ []) sound (book, one, refl)) in
    (x ∷ xs, last, ap₂ (λ (v : Visit) (l : List Visit). v ∷ l) same each, (book, one, so), after)

module _ {D : Type 0} (clean : D → Type 0) (stands : D → Standing) where
  -- One more was served behind others.
  pub each_then : (old mid new : D) (visits : List Visit) (visit : Visit) → (clean new → clean mid) → ServesEach clean stands old mid visits
      → ServesOne (clean new) (stands mid) (stands new) visit → ServesEach clean stands old new (visits ++ visit ∷ [])
  each_then old mid new [] visit falls so one =
      (new, subst (λ d. clean new → clean d) so falls, subst (λ d. ServesOne (clean new) (stands d) (stands new) visit) so one, refl)
  each_then old mid new (first ∷ visits) visit falls so one = (so.0, so.1, so.2, each_then so.0 mid new visits visit falls so.3 one)

  -- The first register was clean if the last is.
  pub each_falls : (old new : D) (visits : List Visit) → ServesEach clean stands old new visits → clean new → clean old
  each_falls old new [] so is = subst clean so is
  each_falls old new (visit ∷ visits) so is = so.1 (each_falls so.0 new visits so.3 is)

  -- What there was one behind another leads from what the first register stood for to what the last stands for.
  pub each_all : (old new : D) (visits : List Visit) → ServesEach clean stands old new visits → ServesAll (clean new) (stands old) (stands new) visits
  each_all old new [] so = subst (λ d. ServesAll (clean new) (stands d) (stands new) []) so (serves_none (clean new) (stands new))
  each_all old new (visit ∷ visits) so = serves_first (clean new) (clean so.0) (stands old) (stands so.0) (stands new) visit visits
      (each_falls so.0 new visits so.3) so.2 (each_all so.0 new visits so.3)

-- What the guard of a register served was served by the register that it guards.
pub each_guarded : {D E : Type 0} (clean : E → Type 0) (stands : E → Standing) (of : D → E) (old new : D) (visits : List Visit)
    → ServesEach (λ d. clean (of d)) (λ d. stands (of d)) old new visits → ServesEach clean stands (of old) (of new) visits
each_guarded clean stands of old new [] so = ap of so
each_guarded clean stands of old new (visit ∷ visits) so = (of so.0, so.1, so.2, each_guarded clean stands of so.0 new visits so.3)

-- ---- what was told

module _ {E : Type 0} (sink : SinkGhosts E) where
  -- The end of one was told.
  pub tells_one : (a b : E) (visit : Visit) (done : Result Served LinkFault) → visit.done ≡ done → TellsEnd sink a b done → TellsEach sink a b (visit ∷ [])
  tells_one a b visit done is told = (b, subst (TellsEnd sink a b) (sym is) told, refl)

  -- More was told.
  pub tells_then : (a b c : E) (visits more : List Visit) → TellsEach sink a b visits → TellsEach sink b c more → TellsEach sink a c (visits ++ more)
  tells_then a b c [] more p q = subst (λ first. TellsEach sink first c more) p q
  tells_then a b c (visit ∷ visits) more p q = (p.0, p.1, tells_then p.0 b c visits more p.2 q)

-- ---- how a server ends

-- Less is said of how they were served.
pub served_as : {E : Type 0} {sink : SinkGhosts E} (WereServed AreServed : List Visit → Type 0) (count : ℕ) (said cut deaf : Type 0) (CameIn : List Visit → Type 0) (err : Outlet sink) (done : Result ⊤ Fault)
    → ((visits : List Visit) → WereServed visits → AreServed visits) → HasServed WereServed count said cut deaf CameIn err done
    → HasServed AreServed count said cut deaf CameIn err done
served_as WereServed AreServed count said cut deaf CameIn err done so has = record {
  visits = has.visits;
  came_in = has.came_in;
  served = so has.visits has.served;
  told = has.told;
  all = has.all;
  few = has.few;
  fault = has.fault;
  first = has.first;
}

-- A fault came before a connection was served.
pub served_early : {E : Type 0} {sink : SinkGhosts E} (WereServed : List Visit → Type 0) (count : ℕ) (said cut deaf : Type 0) (CameIn : List Visit → Type 0) (err : Outlet sink) (done : Result ⊤ Fault) (fault : Fault)
    → WereServed [] → done ≡ Err fault → StopsServing cut deaf [] fault → CameIn [] → err.new ≡ err.old → HasServed WereServed count said cut deaf CameIn err done
served_early WereServed count said cut deaf CameIn err done fault none is stops came untold = subst (HasServed WereServed count said cut deaf CameIn err) (sym is) (record {
  visits = [];
  came_in = came;
  served = none;
  told = untold;
  all = tt;
  few = omega arith;
  fault = stops;
  first = inl refl;
})

-- For this no connection is served: its files are not watched.
pub stops_unwatched : (cut deaf : Type 0) (why : WatchFault) (fault : Fault) → fault ≡ fault_unwatched why → StopsServing cut deaf [] fault
stops_unwatched cut deaf watch.NoMemory fault is = inr (inr (refl, inl is))
stops_unwatched cut deaf watch.Unavailable fault is = inr (inl is)

-- No more connections could be accepted.
pub served_until : {E : Type 0} {sink : SinkGhosts E} (WereServed : List Visit → Type 0) (count : ℕ) (cut deaf : Type 0) (CameIn : List Visit → Type 0) (err : Outlet sink) (done : Result ⊤ Fault) (fault : Fault) (visits : List Visit)
    → done ≡ Err fault → fault ≡ CannotListen → deaf → CameIn visits → WereServed visits → TellsEach sink err.old err.new visits → length visits ≤ count
    → HasServed WereServed count ⊤ cut deaf CameIn err done
served_until WereServed count cut deaf CameIn err done fault visits is cannot over came served told few = subst (HasServed WereServed count ⊤ cut deaf CameIn err) (sym is) (record {
  visits = visits;
  came_in = came;
  served = served;
  told = told;
  all = tt;
  few = few;
  fault = inl (cannot, over);
  first = inr tt;
})

-- What was not cut short stops for nothing else.
stops_then : (cut deaf deafer : Type 0) (visits : List Visit) (fault : Fault) → (deaf → deafer) → StopsServing ⊥ deaf visits fault → StopsServing cut deafer visits fault
stops_then cut deaf deafer visits fault stops (inl (cannot, is)) = inl (cannot, stops is)
stops_then cut deaf deafer visits fault stops (inr (inl gone)) = inr (inl gone)
stops_then cut deaf deafer visits fault stops (inr (inr (none, inl lacks))) = inr (inr (none, inl lacks))
stops_then cut deaf deafer visits fault stops (inr (inr (none, inr (failed, never)))) = absurd never

-- What connections are served is said of the server, and where they came in.
pub served_said : {E : Type 0} {sink : SinkGhosts E} (WereServed : List Visit → Type 0) (count : ℕ) (said cut deaf deafer : Type 0) (CameIn CameTo : List Visit → Type 0) (err : Outlet sink) (done : Result ⊤ Fault)
    → said → ((visits : List Visit) → CameIn visits → CameTo visits)
    → (deaf → deafer) → HasServed WereServed count ⊤ ⊥ deaf CameIn err done → HasServed WereServed count said cut deafer CameTo err done
served_said WereServed count said cut deaf deafer CameIn CameTo err done is came stops has = record {
  visits = has.visits;
  came_in = came has.visits has.came_in;
  served = has.served;
  told = has.told;
  all = has.all;
  few = has.few;
  fault = err_follows (StopsServing ⊥ deaf has.visits) (StopsServing cut deafer has.visits) done (λ fault why. stops_then cut deaf deafer has.visits fault stops why) has.fault;
  first = inr is;
}

-- ---- over a file

module _ {D R : Type 0} {g : Ghosts D} (desk : Desk.Ghosts R) where
  -- What was served by a register over a file was served from the file too.
  serves_over : (file : Image) (rest : Option (Leftover D g)) (last : Leftover D g) (old new : R) → IsOver file rest last (desk.clean new) (desk.stands old) (desk.stands new)
      → (visits : List Visit) → ServesEach desk.clean desk.stands old new visits → ServesOver desk file last old new visits
  serves_over file rest last old new over visits served = (
    λ kept c book there sound.
        let up = over.closes kept in
        let (xs, end, each, so, after) = each_all desk.clean desk.stands old new visits served up c book (over.finds up c book there) sound in
        (xs, end, each, so, over.leaves c end after),
    served,
  )

module _ {D R : Type 0} {g : Ghosts D} {desk : Desk.Ghosts R} where
  -- So it is by a task.
  pub served_over : {L O E : Type 0} {same kept : Type 0} {file : Image} {rest : Option (Leftover D g)} (service : Service) (came : L → Comings) (printed : SinkGhosts O) (told : SinkGhosts E)
      {l l' : L} {out out' o : O} {a b b' : E} {done : Result ⊤ Fault} → l' ≡ l → o ≡ out' → b' ≡ b → (same → (came l).none × (out' ≡ out) × (b ≡ a))
      → IsDoneOver file rest desk (λ fault of. of ≡ fault) same
      (λ R desk old new done. ServesConnections service (came l) (outlet printed out out') (outlet told a b) R desk old new done × kept) done
      → IsServedOver desk file rest service (came l') (outlet printed out o) (outlet told a b') done
  unfolding IsServed
  served_over {kept = kept} {file} {rest} service came printed told {l} {l'} {out} {out'} {o} {a} {b} {b'} {done} is_l is_o is_b quiet is =
      subst (λ l. IsServedOver desk file rest service (came l) (outlet printed out o) (outlet told a b') done) (sym is_l)
      (subst (λ o. IsServedOver desk file rest service (came l) (outlet printed out o) (outlet told a b') done) (sym is_o)
      (subst (λ b. IsServedOver desk file rest service (came l) (outlet printed out out') (outlet told a b) done) (sym is_b)
      (done_over (λ fault. fault) (IsServedOver desk file rest service (came l) (outlet printed out out') (outlet told a b))
      (λ R desk old new done. ServesConnections service (came l) (outlet printed out out') (outlet told a b) R desk old new done × kept) is
      (λ fault not same.
      let (none, unsaid, untold) = quiet same in
      ((inl unsaid, tt), inl (fault, refl, not, none, unsaid, untold)))
      (λ last old new over did. (
        did.0.0,
        inr (
          last,
          old,
          new,
          over,
          served_as (ServesEach desk.clean desk.stands old new) (ServesOver desk file last old new) service.count (WasAnnounced service.port (outlet printed out out'))
              (IsCutShort (outlet printed out out') (listening service.port)) ((came l).deaf service.port) ((came l).at service.port service.seconds) (outlet told a b) done
              (serves_over desk file rest last old new over) did.0.1,
        ),
      )))))
