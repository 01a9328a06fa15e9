-- A refused call leaves the ring, and a refused record the lent inspection, as it was: what it stored in place is what stood there, and the rest was not touched.
use Rattle.std.proofs.Common.{◌≡◌, ap}
use Rattle.rings.specs.declared.Ring.{Ring}
use Rattle.inspection.specs.declared.KeptInspection.{KeptInspection}

-- the arrays of a ring that is r, with r's plan and numbers, are r
pub ring_stays : (r x : Ring) → x ≡ r
    → record { set = r.set; alloc = r.alloc; trt = x.trt; late = x.late; sent = x.sent; rest = x.rest; token = r.token; arrival = x.arrival; had = x.had; mark = x.mark; last = x.last; clock = r.clock; visits = r.visits; unused = r.unused } ≡ r
ring_stays r x e =
    ap (λ (x : Ring). record { set = r.set; alloc = r.alloc; trt = x.trt; late = x.late; sent = x.sent; rest = x.rest; token = r.token; arrival = x.arrival; had = x.had; mark = x.mark; last = x.last; clock = r.clock; visits = r.visits; unused = r.unused }) e

-- the same of an inspection
pub inspection_stays : (i x : KeptInspection) → x ≡ i
    → record { head = i.head; n = i.n; w = i.w; s = i.s; base = x.base; sent = x.sent; mark = x.mark; progress = i.progress } ≡ i
inspection_stays i x e =
    ap (λ (x : KeptInspection). record { head = i.head; n = i.n; w = i.w; s = i.s; base = x.base; sent = x.sent; mark = x.mark; progress = i.progress }) e
