use Rattle.fr_store.proofs.files.close_connection.Goals as goal

pub returns-in-Ok-clause-closed : goal.returns-in-Ok-clause-closed
returns-in-Ok-clause-closed g c clean =
    let copied = c.in-Ok.ensures.copied clean in
    let sound = (c.schema-schema.ensures.live copied.was_open).1 in
    record {
      clean = copied.was_clean;
      is_open = copied.was_open;
      held = record { holds = copied.seen.both; sound = sound };
      left = λ image left. record { holds = (copied.left image left).both; sound = sound };
    }
