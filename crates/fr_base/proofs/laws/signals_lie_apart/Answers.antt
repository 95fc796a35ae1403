use Rattle.fr_base.proofs.laws.signals_lie_apart.Goals as goal

pub returns : goal.returns
returns c = λ cluster b name v k f sound there found.
    let layout = ((sound.variants name v there).1.frames k f found).layout in
    (layout.inside, layout.apart, layout.names)
