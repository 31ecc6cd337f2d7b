-- What `preprocess` writes where it writes no map.
use Rattle.mp_modes.specs.PreprocessMode.{OptimumIsKept}

pub optimum_kept : OptimumIsKept
optimum_kept chosen text done steps (map, out, log, p, e) = (p.original, p.written.«instance», p.way.offset, out, log, e, p.accepted, p.out_is, p.out_denotes, p.carries.agrees)
