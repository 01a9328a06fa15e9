-- What a call does to a ring or an inspection that the host lends:
--     Lent       a visit, a handing in, a marking and taking the mark off, and a record inspected: the ring or the inspection when the call ends, the answer, and that a refused call leaves it as it was
--     Promised   that the calls by value give just that
pub mod Lent
pub mod Promised
