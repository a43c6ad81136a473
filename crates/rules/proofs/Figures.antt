-- The figures compute.
use Rattle.std.proofs.Common.{refl}
use Rattle.std.specs.Int.{int_wrap}
use Rattle.rules.specs.Answer.{◌>>=◌, need}
use Rattle.rules.specs.Word.{operate}
use Rattle.rules.specs.Script.{to_closer, partner, where_is}
use Rattle.rules.specs.Expression.{operated, taken, worked}
use Rattle.rules.specs.Step.{step}
use Rattle.rules.specs.Figures.{Figures, Edges}

pub figures : Figures
unfolding int_wrap operate ◌>>=◌ need to_closer partner where_is operated taken worked step
figures = (
  refl,
  (
    refl,
    (
      refl,
      (
        refl,
        (
          refl,
          (
            record { allowed = refl; numbered = refl; leaves = refl },
            (
              record { allowed = refl; numbered = refl; leaves = refl },
              (
                record { allowed = refl; numbered = refl; leaves = refl },
                (
                  record { allowed = refl; numbered = refl; leaves = refl },
                  (
                    record { allowed = refl; numbered = refl; leaves = refl },
                    (
                      refl,
                      (
                        record { allowed = refl; numbered = refl; leaves = refl },
                        (
                          refl,
                          (
                            record { allowed = refl; numbered = refl; leaves = refl },
                            (
                              record { allowed = refl; numbered = refl; leaves = refl },
                              (
                                record { allowed = refl; numbered = refl; leaves = refl },
                                (
                                  record { allowed = refl; numbered = refl; leaves = refl },
                                  (
                                    record { allowed = refl; numbered = refl; leaves = refl },
                                    (
                                      record { allowed = refl; numbered = refl; leaves = refl },
                                      (
                                        record { allowed = refl; numbered = refl; leaves = refl },
                                        tt,
                                      ),
                                    ),
                                  ),
                                ),
                              ),
                            ),
                          ),
                        ),
                      ),
                    ),
                  ),
                ),
              ),
            ),
          ),
        ),
      ),
    ),
  ),
)

pub edges : Edges
unfolding int_wrap operate ◌>>=◌ need to_closer partner where_is operated taken worked step
edges = (
  record { allowed = refl; numbered = refl; leaves = refl },
  (
    refl,
    (
      record { allowed = refl; numbered = refl; leaves = refl },
      (
        record { allowed = refl; numbered = refl; leaves = refl },
        (
          record { allowed = refl; numbered = refl; leaves = refl },
          (refl, (refl, (refl, tt))),
        ),
      ),
    ),
  ),
)
